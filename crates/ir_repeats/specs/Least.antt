-- The least of some offsets.
use Rattle.std.specs.Prelude.{ℕ, min, Option, Some, None}

-- the lesser of an offset that was found, if one was, and another one
abbrev pub least_of : Option ℕ → ℕ → ℕ
least_of None at = at
least_of (Some found) at = min found at

-- the lesser of two offsets, of which each may not be there
abbrev pub first_of : Option ℕ → Option ℕ → Option ℕ
first_of None other = other
first_of (Some at) other = Some (least_of other at)
