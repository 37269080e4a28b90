-- Readers: from a list of symbols to the value that a front of it spells, or to the first wrong symbol. There is one
-- for each word of `Language`. A test p says by which first symbol a part is told, and the number n bounds how
-- many symbols are read.
use Rattle.std.specs.Prelude.{ℕ, zero, suc, Bool, false, List, [], ◌∷◌, Option, None, Some, is_some, if◌then◌else◌}
use Rattle.grammar.specs.Language.{cons}

-- a value and the symbols after it, or the symbols from the first wrong one on; these are none where no symbol is wrong
pub data Out (S V : Type 0) : Type 0 where
  Got : (v : V) (rest : List S) → Out S V
  Wrong : (rest : List S) → Out S V

abbrev pub Reader : Type 0 → Type 0 → Type 0
Reader S V = List S → Out S V

-- goes on with g where a value was read
abbrev pub then_out : {S A B : Type 0} → Out S A → (A → List S → Out S B) → Out S B
then_out (Got v rest) g = g v rest
then_out (Wrong rest) g = Wrong rest

-- the symbols that f knows
abbrev pub heads : {S K : Type 0} → (S → Option K) → S → Bool
heads f t = is_some (f t)

-- there is a first symbol, and p holds of it
abbrev pub opens : {S : Type 0} → (S → Bool) → List S → Bool
opens p [] = false
opens p (t ∷ _) = p t

abbrev pub run_empty : {S V : Type 0} → V → Reader S V
run_empty v ts = Got v ts

-- what is read where the first symbol gave k
abbrev pub taken : {S K : Type 0} → Option K → List S → List S → Out S K
taken None ts q = Wrong ts
taken (Some k) ts q = Got k q

abbrev pub run_one : {S K : Type 0} → (S → Option K) → Reader S K
run_one f [] = Wrong []
run_one f (t ∷ q) = taken (f t) (t ∷ q) q

abbrev pub run_pick : {S K V : Type 0} → (S → Option K) → (K → Reader S V) → Reader S V
run_pick f run ts = then_out (run_one f ts) run

abbrev pub run_skip : {S K V : Type 0} → (S → Option K) → Reader S V → Reader S V
run_skip f a ts = then_out (run_one f ts) (λ _ rest. a rest)

abbrev pub run_map : {S A B : Type 0} → (A → B) → Reader S A → Reader S B
run_map h a ts = then_out (a ts) (λ v rest. Got (h v) rest)

abbrev pub run_seq : {S A B : Type 0} → Reader S A → Reader S B → Reader S (A × B)
run_seq {S} {A} {B} a b ts = then_out {B = A × B} (a ts) (λ v rest. then_out {B = A × B} (b rest) (λ w more. Got (v, w) more))

abbrev pub run_maybe : {S V : Type 0} → (S → Bool) → Reader S V → Reader S (Option V)
run_maybe p a ts = if opens p ts then then_out (a ts) (λ v rest. Got (Some v) rest) else Got None ts

abbrev pub run_or : {S V : Type 0} → (S → Bool) → Reader S V → Reader S V → Reader S V
run_or p a b ts = if opens p ts then a ts else b ts

-- the closing symbol, for the empty list
abbrev pub run_close : {S C V : Type 0} → (S → Option C) → Reader S (List V)
run_close close = run_skip close (run_empty [])

unfoldable pub run_many : {S V : Type 0} → ℕ → (S → Bool) → Reader S V → Reader S (List V)
run_many zero p a ts = Got [] ts
run_many (suc n) p a ts = run_or p (run_map cons (run_seq a (run_many n p a))) (run_empty []) ts

abbrev pub run_up_to : {S K V : Type 0} → (S → Option K) → Reader S V → Reader S V
run_up_to close a = run_map (λ v. v.0) (run_seq a (run_one close))

-- any number of items, and then the closing symbol
unfoldable pub run_until : {S C V : Type 0} → ℕ → (S → Option C) → Reader S V → Reader S (List V)
run_until zero close item ts = Wrong ts
run_until (suc n) close item ts =
    run_or (heads close) (run_close close) (run_map cons (run_seq item (run_until n close item))) ts

-- one or more items with separators between them, and then the closing symbol
unfoldable pub run_items : {S K C V : Type 0} → ℕ → (S → Option K) → (S → Option C) → Reader S V → Reader S (List V)
run_items zero separator close item ts = Wrong ts
run_items (suc n) separator close item ts =
    run_map cons
    (run_seq item (run_or (heads close) (run_close close) (run_skip separator (run_items n separator close item))))
    ts

abbrev pub run_listed : {S K C V : Type 0} → ℕ → (S → Option K) → (S → Option C) → Reader S V → Reader S (List V)
run_listed n separator close item = run_or (heads close) (run_close close) (run_items n separator close item)

-- the reader of a recursive rule: rule n r reads the rule, with r for each inner use
unfoldable pub run_recursive : {S V : Type 0} → (ℕ → Reader S V → Reader S V) → ℕ → Reader S V
run_recursive rule zero ts = Wrong ts
run_recursive rule (suc n) ts = rule n (run_recursive rule n) ts

-- the whole list is read: symbols that are left over are wrong
abbrev pub all_read : {S V : Type 0} → Out S V → Out S V
all_read (Got v []) = Got v []
all_read (Got v (t ∷ rest)) = Wrong (t ∷ rest)
all_read (Wrong rest) = Wrong rest
