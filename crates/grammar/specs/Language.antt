-- Grammars: which lists of symbols spell which values. A rule of a written grammar is a term of these words:
-- a token is `one` or `skip`, juxtaposition is `seq`, `[ a ]` is `maybe a`, `{ a }` is `many a`, `a | b` is `or_else a b`,
-- and a choice by a first token is `pick`.
use Rattle.std.specs.Prelude.{◌≡◌, ℕ, zero, suc, List, [], ◌∷◌, ◌++◌, Option, None, Some, ◌⊎◌}

-- a language over the symbols S: which lists of them spell which values
abbrev pub Lang : Type 0 → Type 0 → Type 1
Lang S V = List S → V → Type 0

-- what a symbol stands for that says no more than that it is there, as a comma
pub data Mark : Type 0 where
  mark : Mark

-- no symbol at all, for this value
abbrev pub empty : {S V : Type 0} → V → Lang S V
empty v ts w = (ts ≡ []) × (w ≡ v)

-- no list spells anything
abbrev pub nothing : {S V : Type 0} → Lang S V
nothing ts v = ⊥

-- a first symbol that f knows, and then what f's answer asks for
abbrev pub pick : {S K V : Type 0} → (S → Option K) → (K → Lang S V) → Lang S V
pick {S} {K} f rest ts v = (t : S) × (q : List S) × (k : K) × (ts ≡ t ∷ q) × (f t ≡ Some k) × rest k q v

-- one symbol that f knows, for f's answer
abbrev pub one : {S K : Type 0} → (S → Option K) → Lang S K
one f = pick f empty

-- one symbol that f knows, and then an a
abbrev pub skip : {S K V : Type 0} → (S → Option K) → Lang S V → Lang S V
skip f a = pick f (λ _. a)

-- an a, and then a b
abbrev pub seq : {S A B : Type 0} → Lang S A → Lang S B → Lang S (A × B)
seq {S} a b ts v = (p : List S) × (q : List S) × (ts ≡ p ++ q) × a p v.0 × b q v.1

-- an a, whose value is handed to h
abbrev pub map_to : {S A B : Type 0} → (A → B) → Lang S A → Lang S B
map_to {S} {A} h a ts w = (v : A) × a ts v × (w ≡ h v)

-- an a, or no symbol
abbrev pub maybe : {S V : Type 0} → Lang S V → Lang S (Option V)
maybe a ts None = ts ≡ []
maybe a ts (Some v) = a ts v

-- an a or a b
abbrev pub or_else : {S V : Type 0} → Lang S V → Lang S V → Lang S V
or_else a b ts v = a ts v ⊎ b ts v

-- any number of as, one after another
abbrev pub many : {S V : Type 0} → Lang S V → Lang S (List V)
many a ts [] = ts ≡ []
many {S} a ts (v ∷ vs) = (p : List S) × (q : List S) × (ts ≡ p ++ q) × a p v × many a q vs

-- a value before a list of them
abbrev pub cons : {V : Type 0} → V × List V → List V
cons v = v.0 ∷ v.1

-- an a, and then the closing symbol
abbrev pub up_to : {S K V : Type 0} → (S → Option K) → Lang S V → Lang S V
up_to close a = map_to (λ v. v.0) (seq a (one close))

-- one or more items with separators between them
abbrev pub items : {S K V : Type 0} → (S → Option K) → Lang S V → Lang S (List V)
items separator item = map_to cons (seq item (many (skip separator item)))

-- any number of items, and then the closing symbol
abbrev pub until : {S C V : Type 0} → (S → Option C) → Lang S V → Lang S (List V)
until close item = up_to close (many item)

-- any number of items with separators between them, and then the closing symbol
abbrev pub listed : {S K C V : Type 0} → (S → Option K) → (S → Option C) → Lang S V → Lang S (List V)
listed separator close item = or_else (skip close (empty [])) (up_to close (items separator item))

-- a rule that leads back to itself, at most d deep: rule L is the rule with L in the place of each inner use
unfoldable pub nested : {S V : Type 0} → (Lang S V → Lang S V) → ℕ → Lang S V
nested rule zero = rule nothing
nested rule (suc d) = rule (nested rule d)

-- a rule that leads back to itself, as deep as it takes
unfoldable pub recursive : {S V : Type 0} → (Lang S V → Lang S V) → Lang S V
recursive rule ts v = (d : ℕ) × nested rule d ts v
