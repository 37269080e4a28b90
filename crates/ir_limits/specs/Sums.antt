-- Sums of the numbers that a relation gives.
use Rattle.std.specs.Prelude.{◌≡◌, ℕ, ◌+◌, List, [], ◌∷◌}
use Rattle.ir_proper.specs.Limits.{capped}

-- a relation gives each of these a number, and this is the sum
abbrev pub HaveSum : {X : Type 0} → (X → ℕ → Type 0) → List X → ℕ → Type 0
HaveSum R [] n = n ≡ 0
HaveSum R (x ∷ xs) n = (first rest : ℕ) × R x first × HaveSum R xs rest × (n ≡ first + rest)

-- a number of which this holds, as it is told: one that would pass 2^64 - 1 is 2^64 - 1
abbrev pub IsTold : (ℕ → Type 0) → ℕ → Type 0
IsTold P told = (n : ℕ) × P n × (told ≡ capped n)
