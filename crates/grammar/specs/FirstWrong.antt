-- What it means that a reader is right: it gives what the language spells, and else names the first wrong symbol.
use Rattle.std.specs.Prelude.{◌≡◌, List, [], ◌∷◌, ◌++◌}
use Rattle.grammar.specs.Language.{Lang}
use Rattle.grammar.specs.Reader.{Out, Got, Wrong}

-- these symbols begin a list that spells something
abbrev pub Begins : {S V : Type 0} → Lang S V → List S → Type 0
Begins {S} {V} L p = (q : List S) × (v : V) × L (p ++ q) v

-- the first wrong symbol of ts is the first one of rest: those before it begin a list that spells something, and
-- with it they begin none. Where rest is empty, no symbol is wrong: more of them are wanted.
pub record FirstWrong {S V : Type 0} (L : Lang S V) (ts rest : List S) : Type 0 where
  pub before : List S
  pub cut : ts ≡ before ++ rest
  pub begins : Begins L before
  pub wrong : (t : S) (more : List S) → rest ≡ t ∷ more → Begins L (before ++ t ∷ []) → ⊥

-- no front of ts spells anything
abbrev pub NoneSpelled : {S V : Type 0} → Lang S V → List S → Type 0
NoneSpelled {S} {V} L ts = (p r : List S) (v : V) → ts ≡ p ++ r → L p v → ⊥

-- what a reader answers at ts: the value that a front of ts spells, or the first wrong symbol where no front spells any
abbrev pub Reads : {S V : Type 0} → Lang S V → List S → Out S V → Type 0
Reads {S} L ts (Got v rest) = (p : List S) × (ts ≡ p ++ rest) × L p v
Reads L ts (Wrong rest) = FirstWrong L ts rest × NoneSpelled L ts

-- the same for a whole list: the value that all of ts spells, or the first wrong symbol where ts spells none
abbrev pub ReadsAll : {S V : Type 0} → Lang S V → List S → Out S V → Type 0
ReadsAll L ts (Got v rest) = (rest ≡ []) × L ts v
ReadsAll {S} {V} L ts (Wrong rest) = FirstWrong L ts rest × ((v : V) → L ts v → ⊥)
