-- The texts that are compiled: `main` returns a number.
use Rattle.std.specs.Prelude.{◌≡◌, ◌<◌, ◌^◌, List, [], ◌∷◌, ◌++◌, ℕ, ℤ, pos, unsigned_abs, codes, ◌⊎◌}
use Rattle.std.specs.Int.{int_rem_euclid}
use Rattle.std.specs.Fmt.{signed_decimal}

-- the literal writes the number, of at most nine digits, in decimal
abbrev pub Writes : List ℕ → ℤ → Type 0
Writes literal number = (unsigned_abs number < 10 ^ 9) × (literal ≡ signed_decimal number)

-- what follows the literal to the end of the text
abbrev pub IsEnd : List ℕ → Type 0
IsEnd rest = (rest ≡ codes " }") ⊎ (rest ≡ codes " }" ++ 10 ∷ [])

-- the text defines `main` to return the literal; one line feed may follow
abbrev pub ReturnsLiteral : List ℕ → List ℕ → Type 0
ReturnsLiteral text literal =
    (rest : List ℕ) × IsEnd rest × (text ≡ codes "define i32 @main() { ret i32 " ++ (literal ++ rest))

-- the text defines `main` to return the number
abbrev pub Returns : List ℕ → ℤ → Type 0
Returns text number = (literal : List ℕ) × Writes literal number × ReturnsLiteral text literal

-- what the system sees of the number that `main` returns: the number modulo 256
abbrev pub exit_status : ℤ → ℕ
exit_status number = unsigned_abs (int_rem_euclid number (pos 256))
