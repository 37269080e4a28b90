-- The errors of the steps to a module, as errors of the whole way.
use Rattle.std.specs.Prelude.{ℕ, List}
use Rattle.ir_lex.specs.Tokens.{IsBad}
use Rattle.ir_lex.specs.declared.error.LexError.{LexError}
use Rattle.ir_lex.specs.declared.error.LexError.TheVariants as lex
use Rattle.ir_parse.specs.declared.error.ParseError.{ParseError}
use Rattle.ir_parse.specs.declared.error.ParseError.TheVariants as parse
use Rattle.ir_source.specs.Texts.{IsOutside}
use Rattle.ir_source.specs.declared.error.SourceError.{SourceError}
use Rattle.ir_source.specs.declared.error.SourceError.TheVariants.{Bad, Outside, Deep, Syntax, OutOfMemory}

-- the error of a text whose tokens are refused
abbrev pub of_lex : LexError → SourceError
of_lex (lex.Bad at) = Bad at
of_lex (lex.Outside at len) = Outside at len
of_lex lex.OutOfMemory = OutOfMemory

-- the error of a text whose kept tokens are refused
abbrev pub of_parse : ParseError → SourceError
of_parse (parse.Deep at) = Deep at
of_parse (parse.Syntax at) = Syntax at
of_parse parse.OutOfMemory = OutOfMemory

-- why no tokens are kept
abbrev pub KeepsNone : List ℕ → LexError → Type 0
KeepsNone text (lex.Bad at) = IsBad text at
KeepsNone text (lex.Outside at len) = IsOutside text at len
KeepsNone text lex.OutOfMemory = Unit {0}
