-- A part of what the rules say: so many values of one size.
use Rattle.std.specs.Prelude.{◌≡◌, ℕ, ℤ, pos, ◌*◌, ◌≤◌}
use Rattle.ir_layout.specs.Layout.{most_size}

-- a count that isn't negative, of values whose sizes together are at most the greatest size
abbrev pub AreSmall : ℕ → ℤ → Type 0
AreSmall size count = (n : ℕ) × (count ≡ pos n) × (n * size ≤ most_size)
