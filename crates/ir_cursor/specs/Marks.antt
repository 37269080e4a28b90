-- Marks as parts of a grammar.
use Rattle.std.specs.Prelude.{ℕ, ◌==◌, Option, None, Some, if◌then◌else◌}
use Rattle.grammar.specs.Language.{Mark, mark}
use Rattle.ir_lex.specs.Symbols.{Symbol, MarkSymbol}

-- one of the marks `=`, `,`, `*`, `|` and the brackets, by its byte
abbrev pub punct : ℕ → Symbol → Option Mark
punct b (MarkSymbol c) = if b == c then Some mark else None
punct b _ = None
