use Rattle.std.specs.Prelude.{◌≡◌, ℕ, ◌≤◌, List, ◌++◌, length, take, Option}
use Rattle.std.specs.Option.{option_map}

-- a sink has taken these bytes beside what it had taken, as far as it tells its bytes
abbrev pub Takes : Option (List ℕ) → Option (List ℕ) → List ℕ → Type 0
Takes old new bytes = new ≡ option_map (λ taken. taken ++ bytes) old

-- a sink has taken a prefix of these bytes, as far as it tells its bytes
abbrev pub TakesPrefix : Option (List ℕ) → Option (List ℕ) → List ℕ → Type 0
TakesPrefix old new bytes = (n : ℕ) × (n ≤ length bytes) × Takes old new (take n bytes)
