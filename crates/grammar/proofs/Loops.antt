-- Loops over the items of a list: the reader's answer is that of the items read so far and of those still to come.
use Rattle.std.proofs.Common.{◌≡◌, ◌≤◌, length, drop, ℕ, zero, suc, Bool, true, false, List, [], ◌∷◌, ◌++◌, Option, None, Some, refl, sym, ◌∙◌, ap, append_assoc, is_some}
use Rattle.std.proofs.lemmas.List.{append-nil}
use Rattle.grammar.specs.Language.{cons, Mark}
use Rattle.grammar.specs.Code.{Stops}
use Rattle.grammar.specs.declared.Stop.{Stop}
use Rattle.grammar.specs.declared.Stop.TheVariants.{WrongSymbol, OutOfMemory}
use Rattle.grammar.specs.Reader.{Out, Got, Wrong, Reader, then_out, heads, opens, taken, run_one, run_many, run_until, run_items}

-- the answer for a list whose first items are front and whose others are read as o says
abbrev pub after : {S V : Type 0} → List V → Out S (List V) → Out S (List V)
after front o = then_out o (λ vs rest. Got (front ++ vs) rest)

-- before the first item
pub after_none : {S V : Type 0} (o : Out S (List V)) → o ≡ after [] o
after_none (Got vs rest) = refl
after_none (Wrong rest) = refl

-- one item more
pub after_one : {S V : Type 0} (front : List V) (v : V) (o : Out S (List V))
    → after front (then_out o (λ vs rest. Got (v ∷ vs) rest)) ≡ after (front ++ v ∷ []) o
after_one front v (Got vs rest) = ap (λ z. Got z rest) (sym (append_assoc front (v ∷ []) vs))
after_one front v (Wrong rest) = refl

unnest : {S V : Type 0} (v : V) (o : Out S (List V))
    → then_out (then_out {B = V × List V} o (λ w more. Got (v, w) more)) (λ u rest. Got (cons u) rest) ≡ then_out o (λ vs rest. Got (v ∷ vs) rest)
unnest v (Got vs rest) = refl
unnest v (Wrong rest) = refl

opens_taken : {S K : Type 0} (o : Option K) (ts q rest : List S) (k : K) → taken o ts q ≡ Got k rest → is_some o ≡ true
opens_taken None ts q rest k e = cc
opens_taken (Some j) ts q rest k e = refl

-- a symbol that f knows stands first where one was read
pub opens_one : {S K : Type 0} (f : S → Option K) (ts rest : List S) (k : K) → run_one f ts ≡ Got k rest → opens (heads f) ts ≡ true
opens_one f [] rest k e = cc
opens_one f (t ∷ ts) rest k e = opens_taken (f t) (t ∷ ts) ts rest k e

-- items with separators, up to a closing symbol

-- an item and a separator were read
pub items_next : {S K C V : Type 0} (n : ℕ) (separator : S → Option K) (close : S → Option C) (item : Reader S V) (front : List V)
    (ts rest q : List S) (v : V) (k : K) → item ts ≡ Got v rest → opens (heads close) rest ≡ false → run_one separator rest ≡ Got k q
    → after front (run_items (suc n) separator close item ts) ≡ after (front ++ v ∷ []) (run_items n separator close item q)
unfolding run_items
items_next n separator close item front ts rest q v k e c d =
    rw (e, c, d) (ap (after front) (unnest v (run_items n separator close item q)) ∙ after_one front v (run_items n separator close item q))

-- the item is wrong
pub items_wrong : {S K C V : Type 0} (n : ℕ) (separator : S → Option K) (close : S → Option C) (item : Reader S V) (front : List V)
    (ts rest : List S) → item ts ≡ Wrong rest
    → after front (run_items (suc n) separator close item ts) ≡ Wrong rest
unfolding run_items
items_wrong n separator close item front ts rest e = rw e refl

-- neither a separator nor the closing symbol follows
pub items_open : {S K C V : Type 0} (n : ℕ) (separator : S → Option K) (close : S → Option C) (item : Reader S V) (front : List V)
    (ts rest q : List S) (v : V) → item ts ≡ Got v rest → opens (heads close) rest ≡ false → run_one separator rest ≡ Wrong q
    → after front (run_items (suc n) separator close item ts) ≡ Wrong q
unfolding run_items
items_open n separator close item front ts rest q v e c d = rw (e, c, d) refl

-- the closing symbol follows
pub items_last : {S K C V : Type 0} (n : ℕ) (separator : S → Option K) (close : S → Option C) (item : Reader S V) (front : List V)
    (ts rest q : List S) (v : V) (k : C) → item ts ≡ Got v rest → run_one close rest ≡ Got k q
    → after front (run_items (suc n) separator close item ts) ≡ Got (front ++ v ∷ []) q
unfolding run_items
items_last n separator close item front ts rest q v k e d =
    let c : opens (heads close) rest ≡ true = opens_one close rest q k d in
    rw (e, c, d) refl

-- no symbol is left for an item
pub items_end : {S K C V : Type 0} (separator : S → Option K) (close : S → Option C) (item : Reader S V) (front : List V) (ts : List S)
    → after front (run_items zero separator close item ts) ≡ Wrong ts
unfolding run_items
items_end separator close item front ts = refl

-- items up to a closing symbol

pub until_next : {S C V : Type 0} (n : ℕ) (close : S → Option C) (item : Reader S V) (front : List V) (ts rest : List S) (v : V)
    → opens (heads close) ts ≡ false → item ts ≡ Got v rest
    → after front (run_until (suc n) close item ts) ≡ after (front ++ v ∷ []) (run_until n close item rest)
unfolding run_until
until_next n close item front ts rest v c e =
    rw (c, e) (ap (after front) (unnest v (run_until n close item rest)) ∙ after_one front v (run_until n close item rest))

pub until_wrong : {S C V : Type 0} (n : ℕ) (close : S → Option C) (item : Reader S V) (front : List V) (ts rest : List S)
    → opens (heads close) ts ≡ false → item ts ≡ Wrong rest → after front (run_until (suc n) close item ts) ≡ Wrong rest
unfolding run_until
until_wrong n close item front ts rest c e = rw (c, e) refl

pub until_last : {S C V : Type 0} (n : ℕ) (close : S → Option C) (item : Reader S V) (front : List V) (ts q : List S) (k : C)
    → run_one close ts ≡ Got k q → after front (run_until (suc n) close item ts) ≡ Got front q
unfolding run_until
until_last n close item front ts q k d =
    let c : opens (heads close) ts ≡ true = opens_one close ts q k d in
    rw (c, d) (ap (λ z. Got z q) (append-nil front))

pub until_end : {S C V : Type 0} (close : S → Option C) (item : Reader S V) (front : List V) (ts : List S)
    → after front (run_until zero close item ts) ≡ Wrong ts
unfolding run_until
until_end close item front ts = refl

-- any number of items

pub many_next : {S V : Type 0} (n : ℕ) (p : S → Bool) (item : Reader S V) (front : List V) (ts rest : List S) (v : V)
    → opens p ts ≡ true → item ts ≡ Got v rest
    → after front (run_many (suc n) p item ts) ≡ after (front ++ v ∷ []) (run_many n p item rest)
unfolding run_many
many_next n p item front ts rest v c e =
    rw (c, e) (ap (after front) (unnest v (run_many n p item rest)) ∙ after_one front v (run_many n p item rest))

pub many_wrong : {S V : Type 0} (n : ℕ) (p : S → Bool) (item : Reader S V) (front : List V) (ts rest : List S)
    → opens p ts ≡ true → item ts ≡ Wrong rest → after front (run_many (suc n) p item ts) ≡ Wrong rest
unfolding run_many
many_wrong n p item front ts rest c e = rw (c, e) refl

pub many_last : {S V : Type 0} (n : ℕ) (p : S → Bool) (item : Reader S V) (front : List V) (ts : List S)
    → opens p ts ≡ false → after front (run_many n p item ts) ≡ Got front ts
unfolding run_many
many_last zero p item front ts c = ap (λ z. Got z ts) (append-nil front)
many_last (suc n) p item front ts c = rw c (ap (λ z. Got z ts) (append-nil front))

pub many_end : {S V : Type 0} (p : S → Bool) (item : Reader S V) (front : List V) (ts : List S)
    → after front (run_many zero p item ts) ≡ Got front ts
unfolding run_many
many_end p item front ts = ap (λ z. Got z ts) (append-nil front)

-- the invariant of a loop over items with separators, of which at most n are still read: whole is the answer of the list, front
-- the items read so far, and next the number of the symbol where the next item begins
pub record ItemsLeft {S K C V : Type 0} (n : ℕ) (separator : S → Option K) (close : S → Option C) (item : Reader S V)
    (whole : Out S (List V)) (front : List V) (ss : List S) (next : ℕ) : Type 0 where
  pub same : whole ≡ after front (run_items n separator close item (drop next ss))
  pub within : next ≤ length ss

-- the same of a loop over items up to a closing symbol
pub record UntilLeft {S C V : Type 0} (n : ℕ) (close : S → Option C) (item : Reader S V)
    (whole : Out S (List V)) (front : List V) (ss : List S) (next : ℕ) : Type 0 where
  pub same : whole ≡ after front (run_until n close item (drop next ss))
  pub within : next ≤ length ss

-- the same of a loop over items that begin with p
pub record ManyLeft {S V : Type 0} (n : ℕ) (p : S → Bool) (item : Reader S V)
    (whole : Out S (List V)) (front : List V) (ss : List S) (next : ℕ) : Type 0 where
  pub same : whole ≡ after front (run_many n p item (drop next ss))
  pub within : next ≤ length ss

-- as a loop begins
pub items_start : {S K C V : Type 0} (n : ℕ) (separator : S → Option K) (close : S → Option C) (item : Reader S V) (ss : List S) (next : ℕ)
    → next ≤ length ss → ItemsLeft n separator close item (run_items n separator close item (drop next ss)) [] ss next
items_start n separator close item ss next le = record { same = after_none _; within = le }

pub until_start : {S C V : Type 0} (n : ℕ) (close : S → Option C) (item : Reader S V) (ss : List S) (next : ℕ)
    → next ≤ length ss → UntilLeft n close item (run_until n close item (drop next ss)) [] ss next
until_start n close item ss next le = record { same = after_none _; within = le }

pub many_start : {S V : Type 0} (n : ℕ) (p : S → Bool) (item : Reader S V) (ss : List S) (next : ℕ)
    → next ≤ length ss → ManyLeft n p item (run_many n p item (drop next ss)) [] ss next
many_start n p item ss next le = record { same = after_none _; within = le }

-- items with separators: an item and a separator were read
pub items_go_on : {S K C V : Type 0} {whole : Out S (List V)} {front : List V} {ss : List S} {next n : ℕ}
    {separator : S → Option K} {close : S → Option C} {item : Reader S V} (m : ℕ)
    → ItemsLeft n separator close item whole front ss next → n ≡ suc m
    → (past : ℕ) (v : V) → item (drop next ss) ≡ Got v (drop past ss) → opens (heads close) (drop past ss) ≡ false
    → (last : ℕ) (k : K) → run_one separator (drop past ss) ≡ Got k (drop last ss) → last ≤ length ss
    → ItemsLeft m separator close item whole (front ++ v ∷ []) ss last
items_go_on {front = front} {ss = ss} {next = next} {separator = separator} {close = close} {item = item} m g e past v i c last k d le = record {
  same = g.same ∙ ap (λ z. after front (run_items z separator close item (drop next ss))) e
      ∙ items_next m separator close item front (drop next ss) (drop past ss) (drop last ss) v k i c d;
  within = le;
}

-- the item stopped
pub items_stop_in_item : {S K C V : Type 0} {whole : Out S (List V)} {front : List V} {ss : List S} {next n : ℕ}
    {separator : S → Option K} {close : S → Option C} {item : Reader S V} (m : ℕ)
    → ItemsLeft n separator close item whole front ss next → n ≡ suc m
    → (e : Stop) → Stops ss e (item (drop next ss)) → Stops ss e whole
items_stop_in_item {front = front} {ss = ss} {next = next} {separator = separator} {close = close} {item = item} m g e (WrongSymbol k) d = (
  g.same ∙ ap (λ z. after front (run_items z separator close item (drop next ss))) e
      ∙ items_wrong m separator close item front (drop next ss) (drop k ss) d.0,
  d.1,
)
items_stop_in_item m g e OutOfMemory d = tt

-- no separator and no closing symbol follows the item
pub items_stop_after_item : {S C V : Type 0} {whole : Out S (List V)} {front : List V} {ss : List S} {next n : ℕ}
    {separator : S → Option Mark} {close : S → Option C} {item : Reader S V} (m : ℕ)
    → ItemsLeft n separator close item whole front ss next → n ≡ suc m
    → (past : ℕ) (v : V) → item (drop next ss) ≡ Got v (drop past ss) → opens (heads close) (drop past ss) ≡ false
    → (e : Stop) → Stops ss e (run_one separator (drop past ss)) → Stops ss e whole
items_stop_after_item {front = front} {ss = ss} {next = next} {separator = separator} {close = close} {item = item} m g e past v i c (WrongSymbol k) d = (
  g.same ∙ ap (λ z. after front (run_items z separator close item (drop next ss))) e
      ∙ items_open m separator close item front (drop next ss) (drop past ss) (drop k ss) v i c d.0,
  d.1,
)
items_stop_after_item m g e past v i c OutOfMemory d = tt

-- the closing symbol follows the item
pub items_close : {S K C V : Type 0} {whole : Out S (List V)} {front : List V} {ss : List S} {next n : ℕ}
    {separator : S → Option K} {close : S → Option C} {item : Reader S V} (m : ℕ)
    → ItemsLeft n separator close item whole front ss next → n ≡ suc m
    → (past : ℕ) (v : V) → item (drop next ss) ≡ Got v (drop past ss)
    → (last : ℕ) (k : C) → run_one close (drop past ss) ≡ Got k (drop last ss) → whole ≡ Got (front ++ v ∷ []) (drop last ss)
items_close {front = front} {ss = ss} {next = next} {separator = separator} {close = close} {item = item} m g e past v i last k d =
    g.same ∙ ap (λ z. after front (run_items z separator close item (drop next ss))) e
    ∙ items_last m separator close item front (drop next ss) (drop past ss) (drop last ss) v k i d

-- as many items were read as may be
pub items_run_out : {S K C V : Type 0} {whole : Out S (List V)} {front : List V} {ss : List S} {next n : ℕ}
    {separator : S → Option K} {close : S → Option C} {item : Reader S V}
    → ItemsLeft n separator close item whole front ss next → n ≡ zero → whole ≡ Wrong (drop next ss)
items_run_out {front = front} {ss = ss} {next = next} {separator = separator} {close = close} {item = item} g e =
    g.same ∙ ap (λ z. after front (run_items z separator close item (drop next ss))) e
    ∙ items_end separator close item front (drop next ss)

-- items up to a closing symbol: an item was read
pub until_go_on : {S C V : Type 0} {whole : Out S (List V)} {front : List V} {ss : List S} {next n : ℕ} {close : S → Option C} {item : Reader S V} (m : ℕ)
    → UntilLeft n close item whole front ss next → n ≡ suc m → opens (heads close) (drop next ss) ≡ false
    → (past : ℕ) (v : V) → item (drop next ss) ≡ Got v (drop past ss) → past ≤ length ss
    → UntilLeft m close item whole (front ++ v ∷ []) ss past
until_go_on {front = front} {ss = ss} {next = next} {close = close} {item = item} m g e c past v i le = record {
  same = g.same ∙ ap (λ z. after front (run_until z close item (drop next ss))) e
      ∙ until_next m close item front (drop next ss) (drop past ss) v c i;
  within = le;
}

pub until_stop : {S C V : Type 0} {whole : Out S (List V)} {front : List V} {ss : List S} {next n : ℕ} {close : S → Option C} {item : Reader S V} (m : ℕ)
    → UntilLeft n close item whole front ss next → n ≡ suc m → opens (heads close) (drop next ss) ≡ false
    → (e : Stop) → Stops ss e (item (drop next ss)) → Stops ss e whole
until_stop {front = front} {ss = ss} {next = next} {close = close} {item = item} m g e c (WrongSymbol k) d = (
  g.same ∙ ap (λ z. after front (run_until z close item (drop next ss))) e
      ∙ until_wrong m close item front (drop next ss) (drop k ss) c d.0,
  d.1,
)
until_stop m g e c OutOfMemory d = tt

pub until_close : {S C V : Type 0} {whole : Out S (List V)} {front : List V} {ss : List S} {next n : ℕ} {close : S → Option C} {item : Reader S V} (m : ℕ)
    → UntilLeft n close item whole front ss next → n ≡ suc m
    → (last : ℕ) (k : C) → run_one close (drop next ss) ≡ Got k (drop last ss) → whole ≡ Got front (drop last ss)
until_close {front = front} {ss = ss} {next = next} {close = close} {item = item} m g e last k d =
    g.same ∙ ap (λ z. after front (run_until z close item (drop next ss))) e
    ∙ until_last m close item front (drop next ss) (drop last ss) k d

pub until_run_out : {S C V : Type 0} {whole : Out S (List V)} {front : List V} {ss : List S} {next n : ℕ} {close : S → Option C} {item : Reader S V}
    → UntilLeft n close item whole front ss next → n ≡ zero → whole ≡ Wrong (drop next ss)
until_run_out {front = front} {ss = ss} {next = next} {close = close} {item = item} g e =
    g.same ∙ ap (λ z. after front (run_until z close item (drop next ss))) e ∙ until_end close item front (drop next ss)

-- any number of items: one was read
pub many_go_on : {S V : Type 0} {whole : Out S (List V)} {front : List V} {ss : List S} {next n : ℕ} {p : S → Bool} {item : Reader S V} (m : ℕ)
    → ManyLeft n p item whole front ss next → n ≡ suc m → opens p (drop next ss) ≡ true
    → (past : ℕ) (v : V) → item (drop next ss) ≡ Got v (drop past ss) → past ≤ length ss
    → ManyLeft m p item whole (front ++ v ∷ []) ss past
many_go_on {front = front} {ss = ss} {next = next} {p = p} {item = item} m g e c past v i le = record {
  same = g.same ∙ ap (λ z. after front (run_many z p item (drop next ss))) e
      ∙ many_next m p item front (drop next ss) (drop past ss) v c i;
  within = le;
}

pub many_stop : {S V : Type 0} {whole : Out S (List V)} {front : List V} {ss : List S} {next n : ℕ} {p : S → Bool} {item : Reader S V} (m : ℕ)
    → ManyLeft n p item whole front ss next → n ≡ suc m → opens p (drop next ss) ≡ true
    → (e : Stop) → Stops ss e (item (drop next ss)) → Stops ss e whole
many_stop {front = front} {ss = ss} {next = next} {p = p} {item = item} m g e c (WrongSymbol k) d = (
  g.same ∙ ap (λ z. after front (run_many z p item (drop next ss))) e
      ∙ many_wrong m p item front (drop next ss) (drop k ss) c d.0,
  d.1,
)
many_stop m g e c OutOfMemory d = tt

-- no item follows
pub many_close : {S V : Type 0} {whole : Out S (List V)} {front : List V} {ss : List S} {next n : ℕ} {p : S → Bool} {item : Reader S V}
    → ManyLeft n p item whole front ss next → opens p (drop next ss) ≡ false → whole ≡ Got front (drop next ss)
many_close {front = front} {ss = ss} {next = next} {n = n} {p = p} {item = item} g c = g.same ∙ many_last n p item front (drop next ss) c

pub many_run_out : {S V : Type 0} {whole : Out S (List V)} {front : List V} {ss : List S} {next n : ℕ} {p : S → Bool} {item : Reader S V}
    → ManyLeft n p item whole front ss next → n ≡ zero → whole ≡ Got front (drop next ss)
many_run_out {front = front} {ss = ss} {next = next} {p = p} {item = item} g e =
    g.same ∙ ap (λ z. after front (run_many z p item (drop next ss))) e ∙ many_end p item front (drop next ss)
