-- Loops over items that name what they hold: the table of names grows, and what was read before keeps its shape.
use Rattle.std.proofs.Common.{◌≡◌, ℕ, suc, ◌+◌, ◌≤◌, ◌&&◌, Bool, true, false, List, [], ◌∷◌, ◌++◌, length, map, drop, Option, refl, sym, ◌∙◌, ap, subst, arith}
use Rattle.std.proofs.lemmas.List.{map-append, length-append}
use Rattle.std.specs.List.{list_all}
use Rattle.grammar.specs.Language.{Mark}
use Rattle.grammar.specs.Code.{Stops}
use Rattle.grammar.specs.Reader.{Out, Got, Reader, heads, opens, run_one, run_items, run_listed, run_skip, run_until}
use Rattle.grammar.specs.declared.Stop.{Stop}
use Rattle.grammar.proofs.Loops.{UntilLeft, until_start, until_go_on, ItemsLeft, items_start, items_go_on, items_close}
use Rattle.ir_tree.specs.NameTable.{Grows}
use Rattle.ir_tree.specs.ShapeOf.{ty_shape, typed_shape}
use Rattle.ir_tree.specs.Known.{ty_known, typed_known}
use Rattle.grammar.specs.declared.Stop.TheVariants.{WrongSymbol, OutOfMemory}
use Rattle.ir_tree.proofs.GrowsConst.{typed_shape-append, typed_known-more}
use Rattle.ir_tree.proofs.Table.{grows_same, grows_on}
use Rattle.ir_tree.proofs.Grows.{and_both, map_where, list_all-weaker, ty_shape-append, ty_known-more}

-- what is known keeps its shape and stays known where names are added
pub record Keeps {A V : Type 0} (shape : List (List ℕ) → A → V) (known : ℕ → A → Bool) : Type 0 where
  pub same : (names more : List (List ℕ)) (x : A) → known (length names) x ≡ true → shape (names ++ more) x ≡ shape names x
  pub stays : (n m : ℕ) → n ≤ m → (x : A) → known n x ≡ true → known m x ≡ true

pub tys_keep : Keeps ty_shape ty_known
tys_keep = record { same = ty_shape-append; stays = ty_known-more }

pub grows_length : {old new : List (List ℕ)} → Grows old new → length old ≤ length new
grows_length {old = old} g = omega (arith, ap length g.kept, length-append old g.more)

all_append : {A : Type 0} (k : A → Bool) (xs : List A) (x : A) → list_all k xs ≡ true → k x ≡ true → list_all k (xs ++ x ∷ []) ≡ true
all_append k [] x h e = and_both e refl
all_append k (y ∷ xs) x h e = and_both (first (k y) (list_all k xs) h) (all_append k xs x (second (k y) (list_all k xs) h) e)
  where
    first : (a b : Bool) → (a && b) ≡ true → a ≡ true
    first true b e = refl
    first false b e = cc

    second : (a b : Bool) → (a && b) ≡ true → b ≡ true
    second true b e = e
    second false b e = cc

-- shapes of a list whose names are known
pub shapes_kept : {A V : Type 0} {shape : List (List ℕ) → A → V} {known : ℕ → A → Bool} → Keeps shape known → {old new : List (List ℕ)} → Grows old new
    → (xs : List A) → list_all (known (length old)) xs ≡ true → map (shape new) xs ≡ map (shape old) xs
shapes_kept {shape = shape} {known = known} keeps {old = old} {new = new} g xs h =
    subst (λ z. map (shape z) xs ≡ map (shape old) xs) (sym g.kept)
    (map_where (shape (old ++ g.more)) (shape old) (known (length old)) (λ x k. keeps.same old g.more x k) xs h)

-- they stay known, with one more
pub known_more : {A V : Type 0} {shape : List (List ℕ) → A → V} {known : ℕ → A → Bool} → Keeps shape known → {old new : List (List ℕ)} → Grows old new
    → (xs : List A) → list_all (known (length old)) xs ≡ true → (x : A) → known (length new) x ≡ true → list_all (known (length new)) (xs ++ x ∷ []) ≡ true
known_more {known = known} keeps {old = old} {new = new} g xs h x e =
    all_append (known (length new)) xs x
    (list_all-weaker (known (length old)) (known (length new)) (λ y k. keeps.stays (length old) (length new) (grows_length g) y k) xs h) e

-- the shapes of what was read, with one more
pub shapes_more : {A V : Type 0} {shape : List (List ℕ) → A → V} {known : ℕ → A → Bool} → Keeps shape known → {old new : List (List ℕ)} → Grows old new
    → (xs : List A) → list_all (known (length old)) xs ≡ true → (x : A) → map (shape old) xs ++ shape new x ∷ [] ≡ map (shape new) (xs ++ x ∷ [])
shapes_more {shape = shape} keeps {new = new} g xs h x =
    ap (λ z. z ++ shape new x ∷ []) (sym (shapes_kept keeps g xs h)) ∙ sym (map-append (shape new) xs (x ∷ []))

-- the invariant of a loop over items with separators: at most n are still read, front was read so far under these names, which
-- were old before the loop, and next is the number of the symbol where the next item begins
pub record NamedLeft {A V S K C : Type 0} (shape : List (List ℕ) → A → V) (known : ℕ → A → Bool) (n : ℕ) (separator : S → Option K) (close : S → Option C)
    (item : Reader S V) (whole : Out S (List V)) (old names : List (List ℕ)) (front : List A) (ss : List S) (at next : ℕ) : Type 0 where
  pub left : ItemsLeft n separator close item whole (map (shape names) front) ss next
  pub grows : Grows old names
  pub count : length names + at ≤ length old + next
  pub all_known : list_all (known (length names)) front ≡ true

listed_open : {S K C V : Type 0} (n : ℕ) (separator : S → Option K) (close : S → Option C) (item : Reader S V) (ts : List S)
    → opens (heads close) ts ≡ false → run_items n separator close item ts ≡ run_listed n separator close item ts
listed_open n separator close item ts e = rw e refl

pub named_start : {A V S K C : Type 0} (shape : List (List ℕ) → A → V) (known : ℕ → A → Bool) (n : ℕ) (separator : S → Option K) (close : S → Option C)
    (item : Reader S V) (names : List (List ℕ)) (ss : List S) (at : ℕ) → at ≤ length ss → opens (heads close) (drop at ss) ≡ false
    → NamedLeft shape known n separator close item (run_listed n separator close item (drop at ss)) names names [] ss at at
named_start shape known n separator close item names ss at le apart = record {
  left = subst (λ z. ItemsLeft n separator close item z [] ss at) (listed_open n separator close item (drop at ss) apart) (items_start n separator close item ss at le);
  grows = grows_same names;
  count = omega arith;
  all_known = refl;
}

-- an item and a separator were read
pub named_go_on : {A V S K C : Type 0} {shape : List (List ℕ) → A → V} {known : ℕ → A → Bool} {n : ℕ} {separator : S → Option K} {close : S → Option C}
    {item : Reader S V} {whole : Out S (List V)} {old names : List (List ℕ)} {front : List A} {ss : List S} {at next : ℕ} → Keeps shape known → (m : ℕ)
    → NamedLeft shape known n separator close item whole old names front ss at next → n ≡ suc m
    → {new : List (List ℕ)} → Grows names new → (x : A) → known (length new) x ≡ true → (past : ℕ) → length new + next ≤ length names + past
    → item (drop next ss) ≡ Got (shape new x) (drop past ss) → opens (heads close) (drop past ss) ≡ false
    → (last : ℕ) (k : K) → run_one separator (drop past ss) ≡ Got k (drop last ss) → last ≤ length ss → past ≤ last
    → NamedLeft shape known m separator close item whole old new (front ++ x ∷ []) ss at last
named_go_on {shape = shape} {known = known} {separator = separator} {close = close} {item = item} {whole = whole} {front = front} {ss = ss} keeps m g e {new = new} grows x fits past count read apart last k comma le after = record {
  left = subst (λ z. ItemsLeft m separator close item whole z ss last) (shapes_more keeps grows front g.all_known x)
      (items_go_on m g.left e past (shape new x) read apart last k comma le);
  grows = grows_on g.grows grows;
  count = omega (arith, g.count);
  all_known = known_more keeps grows front g.all_known x fits;
}

-- the closing symbol follows the item
pub named_close : {A V S K C : Type 0} {shape : List (List ℕ) → A → V} {known : ℕ → A → Bool} {n : ℕ} {separator : S → Option K} {close : S → Option C}
    {item : Reader S V} {whole : Out S (List V)} {old names : List (List ℕ)} {front : List A} {ss : List S} {at next : ℕ} → Keeps shape known → (m : ℕ)
    → NamedLeft shape known n separator close item whole old names front ss at next → n ≡ suc m
    → {new : List (List ℕ)} → Grows names new → (x : A) → (past : ℕ)
    → item (drop next ss) ≡ Got (shape new x) (drop past ss)
    → (last : ℕ) (k : C) → run_one close (drop past ss) ≡ Got k (drop last ss)
    → whole ≡ Got (map (shape new) (front ++ x ∷ [])) (drop last ss)
named_close {shape = shape} {front = front} {ss = ss} keeps m g e {new = new} grows x past read last k closed =
    items_close m g.left e past (shape new x) read last k closed ∙ ap (λ z. Got z (drop last ss)) (shapes_more keeps grows front g.all_known x)

pub typed_keep : Keeps typed_shape typed_known
typed_keep = record { same = typed_shape-append; stays = typed_known-more }

-- the invariant of a loop over items up to a closing symbol, each after a separator
pub record NamedUntil {A V S C : Type 0} (shape : List (List ℕ) → A → V) (known : ℕ → A → Bool) (n : ℕ) (close : S → Option C)
    (item : Reader S V) (whole : Out S (List V)) (old names : List (List ℕ)) (front : List A) (ss : List S) (at next : ℕ) : Type 0 where
  pub left : UntilLeft n close item whole (map (shape names) front) ss next
  pub grows : Grows old names
  pub count : length names + at ≤ length old + next
  pub all_known : list_all (known (length names)) front ≡ true

pub until_named_start : {A V S C : Type 0} (shape : List (List ℕ) → A → V) (known : ℕ → A → Bool) (n : ℕ) (close : S → Option C)
    (item : Reader S V) (names : List (List ℕ)) (ss : List S) (at : ℕ) → at ≤ length ss
    → NamedUntil shape known n close item (run_until n close item (drop at ss)) names names [] ss at at
until_named_start shape known n close item names ss at le = record {
  left = until_start n close item ss at le;
  grows = grows_same names;
  count = omega arith;
  all_known = refl;
}

-- a separator and an item were read
pub until_named_go_on : {A V S K C : Type 0} {shape : List (List ℕ) → A → V} {known : ℕ → A → Bool} {n : ℕ} {close : S → Option C}
    (separator : S → Option K) (item : Reader S V) {whole : Out S (List V)} {old names : List (List ℕ)} {front : List A} {ss : List S} {at next : ℕ}
    → Keeps shape known → (m : ℕ) → NamedUntil shape known n close (run_skip separator item) whole old names front ss at next → n ≡ suc m
    → opens (heads close) (drop next ss) ≡ false → (past : ℕ) (k : K) → run_one separator (drop next ss) ≡ Got k (drop past ss) → next ≤ past
    → {new : List (List ℕ)} → Grows names new → (x : A) → known (length new) x ≡ true → (last : ℕ) → length new + past ≤ length names + last
    → item (drop past ss) ≡ Got (shape new x) (drop last ss) → last ≤ length ss
    → NamedUntil shape known m close (run_skip separator item) whole old new (front ++ x ∷ []) ss at last
until_named_go_on {shape = shape} {known = known} {close = close} separator item {whole = whole} {front = front} {ss = ss} {next = next} keeps m g e apart past k comma after {new = new} grows x fits last count read le = record {
  left = subst (λ z. UntilLeft m close (run_skip separator item) whole z ss last) (shapes_more keeps grows front g.all_known x)
      (until_go_on m g.left e apart last (shape new x) (skip_got separator item (drop next ss) (drop past ss) (drop last ss) k (shape new x) comma read) le);
  grows = grows_on g.grows grows;
  count = omega (arith, g.count);
  all_known = known_more keeps grows front g.all_known x fits;
}
  where
    skip_got : {S K V : Type 0} (separator : S → Option K) (item : Reader S V) (ts q rest : List S) (k : K) (v : V) → run_one separator ts ≡ Got k q → item q ≡ Got v rest
        → run_skip separator item ts ≡ Got v rest
    skip_got separator item ts q rest k v e f = rw (e, f) refl

-- no separator stands there
pub skip_stops : {S V : Type 0} (separator : S → Option Mark) (item : Reader S V) (ss ts : List S) (e : Stop) → Stops ss e (run_one separator ts) → Stops ss e (run_skip separator item ts)
skip_stops separator item ss ts (WrongSymbol k) h = (let same = h.0 in rw same refl, h.1)
skip_stops separator item ss ts OutOfMemory h = tt

-- the item after it stops
pub skip_stops_in_item : {S K V : Type 0} (separator : S → Option K) (item : Reader S V) (ss ts q : List S) (k : K) → run_one separator ts ≡ Got k q
    → (e : Stop) → Stops ss e (item q) → Stops ss e (run_skip separator item ts)
skip_stops_in_item separator item ss ts q k f (WrongSymbol j) h = (let same = h.0 in rw (f, same) refl, h.1)
skip_stops_in_item separator item ss ts q k f OutOfMemory h = tt
