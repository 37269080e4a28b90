-- Parts that are read one after another: the names grow in between, and what was read before keeps its shape.
use Rattle.std.proofs.Common.{◌≡◌, ℕ, suc, ◌+◌, ◌≤◌, ◌&&◌, Bool, true, false, List, [], ◌∷◌, ◌++◌, length, map, drop, Option, sym, ◌∙◌, ap, subst, refl, arith}
use Rattle.std.specs.List.{list_all}
use Rattle.grammar.specs.Reader.{Out, Got, Reader, heads, opens, run_one, run_map, run_seq, run_skip, run_or, run_up_to, run_many}
use Rattle.grammar.proofs.Loops.{UntilLeft, until_go_on, ManyLeft, many_start, many_go_on}
use Rattle.ir_lex.specs.Symbols.{Symbol}
use Rattle.ir_tree.specs.NameTable.{Grows}
use Rattle.ir_tree.specs.ShapeOf.{ty_shape, name_shape, val_shape, ty_val_shape, phi_in_shape, case_shape}
use Rattle.ir_tree.specs.Known.{ty_known, name_known, val_known, ty_val_known, phi_in_known, case_known}
use Rattle.ir_tree.specs.declared.types.Ty.{Ty}
use Rattle.ir_tree.specs.declared.names.NameId.{NameId}
use Rattle.ir_tree.specs.declared.module.Val.{Val}
use Rattle.ir_tree.specs.declared.module.TyVal.{TyVal}
use Rattle.ir_tree.proofs.Table.{grows_same, grows_on}
use Rattle.ir_tree.proofs.Grows.{and_both}
use Rattle.ir_tree.proofs.GrowsModule.{name_shape-append, name_known-more, val_shape-append, val_known-more, ty_val_shape-append, ty_val_known-more, phi_in_shape-append, phi_in_known-more, case_shape-append, case_known-more}
use Rattle.ir_grammar_consts.specs.Types.{run_ty}
use Rattle.ir_grammar_insts.specs.Operands.{ty_val_of, run_val, run_ty_val}
use Rattle.ir_read_consts.proofs.NamedItems.{Keeps, NamedUntil, tys_keep, grows_length, shapes_more, known_more}

pub names_keep : Keeps name_shape name_known
names_keep = record { same = name_shape-append; stays = name_known-more }

pub vals_keep : Keeps val_shape val_known
vals_keep = record { same = val_shape-append; stays = val_known-more }

pub ty_vals_keep : Keeps ty_val_shape ty_val_known
ty_vals_keep = record { same = ty_val_shape-append; stays = ty_val_known-more }

pub phi_ins_keep : Keeps phi_in_shape phi_in_known
phi_ins_keep = record { same = phi_in_shape-append; stays = phi_in_known-more }

pub cases_keep : Keeps case_shape case_known
cases_keep = record { same = case_shape-append; stays = case_known-more }

-- a part that was read under a shorter table
pub kept_one : {A V : Type 0} {shape : List (List ℕ) → A → V} {known : ℕ → A → Bool} → Keeps shape known → {old new : List (List ℕ)} → Grows old new
    → (x : A) → known (length old) x ≡ true → shape old x ≡ shape new x
kept_one {shape = shape} keeps {old = old} g x k = sym (ap (λ z. shape z x) g.kept ∙ keeps.same old g.more x k)

pub stays_one : {A V : Type 0} {shape : List (List ℕ) → A → V} {known : ℕ → A → Bool} → Keeps shape known → {old new : List (List ℕ)} → Grows old new
    → (x : A) → known (length old) x ≡ true → known (length new) x ≡ true
stays_one keeps {old = old} {new = new} g x k = keeps.stays (length old) (length new) (grows_length g) x k

-- a part is known under the old table, and the next parts under the new one
pub both_known : {A V : Type 0} {shape : List (List ℕ) → A → V} {known : ℕ → A → Bool} → Keeps shape known → {old new : List (List ℕ)} → Grows old new
    → (x : A) {rest : Bool} → known (length old) x ≡ true → rest ≡ true → (known (length new) x && rest) ≡ true
both_known keeps g x k r = and_both (stays_one keeps g x k) r

-- the same by what is read
pub ty_kept : {old new : List (List ℕ)} → Grows old new → (t : Ty) → ty_known (length old) t ≡ true → ty_shape old t ≡ ty_shape new t
ty_kept g t k = kept_one tys_keep g t k

pub name_kept : {old new : List (List ℕ)} → Grows old new → (x : NameId) → name_known (length old) x ≡ true → name_shape old x ≡ name_shape new x
name_kept g x k = kept_one names_keep g x k

pub val_kept : {old new : List (List ℕ)} → Grows old new → (x : Val) → val_known (length old) x ≡ true → val_shape old x ≡ val_shape new x
val_kept g x k = kept_one vals_keep g x k

pub ty_val_kept : {old new : List (List ℕ)} → Grows old new → (x : TyVal) → ty_val_known (length old) x ≡ true → ty_val_shape old x ≡ ty_val_shape new x
ty_val_kept g x k = kept_one ty_vals_keep g x k

-- a part is read under the old table, and the next ones under the new one
pub seq_read : {S A V W : Type 0} {shape : List (List ℕ) → A → V} {known : ℕ → A → Bool} → Keeps shape known → {old new : List (List ℕ)} → Grows old new
    → (first : Reader S V) (second : Reader S W) (ts : List S) {q rest : List S} (x : A) {w : W} → known (length old) x ≡ true
    → first ts ≡ Got (shape old x) q → second q ≡ Got w rest
    → run_seq first second ts ≡ Got (shape new x, w) rest
seq_read {V = V} {W = W} {shape = shape} keeps {new = new} g first second ts {rest = rest} x {w = w} k e f =
    let pair : V → V × W = λ v. (v, w) in
    rw (e, f) (ap (λ v. Got (pair v) rest) (kept_one keeps g x k))

-- the same where no name stands in the first part
pub seq_plain : {S V W : Type 0} (first : Reader S V) (second : Reader S W) (ts : List S) {q rest : List S} {v : V} {w : W}
    → first ts ≡ Got v q → second q ≡ Got w rest → run_seq first second ts ≡ Got (v, w) rest
seq_plain first second ts e f = rw (e, f) refl

pub map_read : {S V W : Type 0} (h : V → W) (r : Reader S V) (ts : List S) {rest : List S} {v : V} → r ts ≡ Got v rest → run_map h r ts ≡ Got (h v) rest
map_read h r ts e = rw e refl

pub skip_read : {S K V : Type 0} (f : S → Option K) (r : Reader S V) (ts : List S) {q rest : List S} {k : K} {v : V}
    → run_one f ts ≡ Got k q → r q ≡ Got v rest → run_skip f r ts ≡ Got v rest
skip_read f r ts e g = rw (e, g) refl

pub up_to_read : {S K V : Type 0} (close : S → Option K) (r : Reader S V) (ts : List S) {q rest : List S} {v : V} {k : K}
    → r ts ≡ Got v q → run_one close q ≡ Got k rest → run_up_to close r ts ≡ Got v rest
up_to_read close r ts e g = rw (e, g) refl

pub or_first_read : {S V : Type 0} (p : S → Bool) (first second : Reader S V) (ts : List S) {rest : List S} {v : V}
    → opens p ts ≡ true → first ts ≡ Got v rest → run_or p first second ts ≡ Got v rest
or_first_read p first second ts o e = rw (o, e) refl

pub or_second_read : {S V : Type 0} (p : S → Bool) (first second : Reader S V) (ts : List S) {rest : List S} {v : V}
    → opens p ts ≡ false → second ts ≡ Got v rest → run_or p first second ts ≡ Got v rest
or_second_read p first second ts o e = rw (o, e) refl

-- a type and a value that were read
pub ty_val_read : {old new : List (List ℕ)} → Grows old new → (n : ℕ) (ts : List Symbol) {q rest : List Symbol} (t : Ty) (v : Val) → ty_known (length old) t ≡ true
    → run_ty n ts ≡ Got (ty_shape old t) q → run_val n q ≡ Got (val_shape new v) rest
    → run_ty_val n ts ≡ Got (ty_val_shape new (record { ty = t; val = v })) rest
ty_val_read g n ts t v k e f = map_read ty_val_of (run_seq (run_ty n) (run_val n)) ts (seq_read tys_keep g (run_ty n) (run_val n) ts t k e f)

-- a loop up to a closing symbol over items with no separators: an item was read
pub until_named_next : {A V S C : Type 0} {shape : List (List ℕ) → A → V} {known : ℕ → A → Bool} {n : ℕ} {close : S → Option C}
    {item : Reader S V} {whole : Out S (List V)} {old names : List (List ℕ)} {front : List A} {ss : List S} {at next : ℕ}
    → Keeps shape known → (m : ℕ) → NamedUntil shape known n close item whole old names front ss at next → n ≡ suc m
    → opens (heads close) (drop next ss) ≡ false
    → {new : List (List ℕ)} → Grows names new → (x : A) → known (length new) x ≡ true → (last : ℕ) → length new + next ≤ length names + last
    → item (drop next ss) ≡ Got (shape new x) (drop last ss) → last ≤ length ss
    → NamedUntil shape known m close item whole old new (front ++ x ∷ []) ss at last
until_named_next {shape = shape} {known = known} {close = close} {item = item} {whole = whole} {front = front} {ss = ss} keeps m g e apart {new = new} grows x fits last count read le = record {
  left = subst (λ z. UntilLeft m close item whole z ss last) (shapes_more keeps grows front g.all_known x)
      (until_go_on m g.left e apart last (shape new x) read le);
  grows = grows_on g.grows grows;
  count = omega (arith, g.count);
  all_known = known_more keeps grows front g.all_known x fits;
}

-- the invariant of a loop over items that each begin with p, of which at most n are still read
pub record NamedMany {A V S : Type 0} (shape : List (List ℕ) → A → V) (known : ℕ → A → Bool) (n : ℕ) (p : S → Bool)
    (item : Reader S V) (whole : Out S (List V)) (old names : List (List ℕ)) (front : List A) (ss : List S) (at next : ℕ) : Type 0 where
  pub left : ManyLeft n p item whole (map (shape names) front) ss next
  pub grows : Grows old names
  pub count : length names + at ≤ length old + next
  pub all_known : list_all (known (length names)) front ≡ true

pub many_named_start : {A V S : Type 0} (shape : List (List ℕ) → A → V) (known : ℕ → A → Bool) (n : ℕ) (p : S → Bool)
    (item : Reader S V) (names : List (List ℕ)) (ss : List S) (at : ℕ) → at ≤ length ss
    → NamedMany shape known n p item (run_many n p item (drop at ss)) names names [] ss at at
many_named_start shape known n p item names ss at le = record {
  left = many_start n p item ss at le;
  grows = grows_same names;
  count = omega arith;
  all_known = refl;
}

-- an item was read
pub many_named_next : {A V S : Type 0} {shape : List (List ℕ) → A → V} {known : ℕ → A → Bool} {n : ℕ} {p : S → Bool}
    {item : Reader S V} {whole : Out S (List V)} {old names : List (List ℕ)} {front : List A} {ss : List S} {at next : ℕ}
    → Keeps shape known → (m : ℕ) → NamedMany shape known n p item whole old names front ss at next → n ≡ suc m
    → opens p (drop next ss) ≡ true
    → {new : List (List ℕ)} → Grows names new → (x : A) → known (length new) x ≡ true → (last : ℕ) → length new + next ≤ length names + last
    → item (drop next ss) ≡ Got (shape new x) (drop last ss) → last ≤ length ss
    → NamedMany shape known m p item whole old new (front ++ x ∷ []) ss at last
many_named_next {shape = shape} {known = known} {p = p} {item = item} {whole = whole} {front = front} {ss = ss} keeps m g e there {new = new} grows x fits last count read le = record {
  left = subst (λ z. ManyLeft m p item whole z ss last) (shapes_more keeps grows front g.all_known x)
      (many_go_on m g.left e there last (shape new x) read le);
  grows = grows_on g.grows grows;
  count = omega (arith, g.count);
  all_known = known_more keeps grows front g.all_known x fits;
}
