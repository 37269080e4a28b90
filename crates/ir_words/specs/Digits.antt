use Rattle.std.specs.Prelude.{◌≡◌, ℕ, Bool, true, false, not, ◌==◌, ◌&&◌, List, [], ◌∷◌, length}
use Rattle.std.specs.List.{prefix_len}
use Rattle.std.specs.Char.{is_ascii_digit}

-- a decimal digit
unfoldable pub is_digit : ℕ → Bool
is_digit b = is_ascii_digit b

-- digits, at least one
abbrev pub is_number : List ℕ → Bool
is_number w = not (prefix_len is_digit w == 0) && (prefix_len is_digit w == length w)

-- each byte passes the test
abbrev pub Passes : (ℕ → Bool) → List ℕ → Type 0
Passes p [] = Unit {0}
Passes p (b ∷ bs) = (p b ≡ true) × Passes p bs

-- the end, or a first byte that doesn't pass the test
abbrev pub Stops : (ℕ → Bool) → List ℕ → Type 0
Stops p [] = Unit {0}
Stops p (b ∷ bs) = p b ≡ false
