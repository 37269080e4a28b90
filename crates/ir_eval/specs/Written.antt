-- Values of several numbers that are set at once.
use Rattle.std.specs.Prelude.{ℕ, List, [], ◌∷◌, slice_set}

-- a list after values were set at indices, each its own; where two have one index the first counts
abbrev pub written : {A : Type 0} → List A → List ℕ → List A → List A
written values [] vs = values
written values (id ∷ ids) [] = values
written values (id ∷ ids) (v ∷ vs) = slice_set (written values ids vs) id v
