-- Which registers keep a value for sure, and so must be listed.
use Rattle.std.specs.Prelude.{◌≡◌, ◌⊎◌, ◌<◌, ℕ, List, [], ◌∷◌}
use Rattle.rv_flips.specs.Cells.{Cell, Has, Sure}

-- r is one of the registers
abbrev pub IsOneOf : ℕ → List ℕ → Type 0
IsOneOf r [] = ⊥
IsOneOf r (x ∷ xs) = (r ≡ x) ⊎ IsOneOf r xs

-- of the registers but x0, these alone keep a value for sure
abbrev pub Sures : (ℕ → Cell) → List ℕ → Type 0
Sures regs rs = (r v : ℕ) → regs r ≡ Has Sure v → 0 < r → IsOneOf r rs

-- each of the registers is listed at p
abbrev pub AllListed : (ℕ → ℕ → Type 0) → ℕ → List ℕ → Type 0
AllListed listed p [] = Unit {0}
AllListed listed p (x ∷ xs) = listed p x × AllListed listed p xs
