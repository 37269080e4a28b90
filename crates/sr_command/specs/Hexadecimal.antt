use Rattle.std.specs.Prelude.{ℕ, List, ◌++◌, ◌-◌, length, replicate, false}
use Rattle.std.specs.Fmt.{digits}

-- a number in lower-case hexadecimal, with zeros before it up to eight digits
abbrev pub eight_digits : ℕ → List ℕ
eight_digits n = replicate (8 - length (digits 16 false n)) 48 ++ digits 16 false n
