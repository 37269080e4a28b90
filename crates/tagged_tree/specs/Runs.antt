-- A run of what gives new tags for old ones.
use Rattle.std.specs.Prelude.{◌≡◌, List, [], ◌∷◌}

-- A step leads from a state and an old tag to a new tag and a state. A run takes such a step for each old tag in order, each from the
-- state that the one before led to; it gives the new tags in that order.
abbrev pub RunOf : {S A B : Type 0} → (S → A → B → S → Type 0) → S → List A → List B → S → Type 0
RunOf {S} Leads before [] [] after = before ≡ after
RunOf {S} Leads before [] (new ∷ news) after = ⊥
RunOf {S} Leads before (old ∷ olds) [] after = ⊥
RunOf {S} Leads before (old ∷ olds) (new ∷ news) after = (next : S) × Leads before old new next × RunOf Leads next olds news after
