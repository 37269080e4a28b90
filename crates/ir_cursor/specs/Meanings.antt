-- The symbol that a meaning stands for.
use Rattle.std.specs.Prelude.{ℕ, List}
use Rattle.ir_lex.specs.Meaning.{name_of, text_spelling, unescaped}
use Rattle.ir_lex.specs.Symbols.{Symbol, KeywordSymbol, LocalSymbol, GlobalSymbol, LabelSymbol, NumberSymbol, TextSymbol, MarkSymbol, OtherSymbol}
use Rattle.ir_cursor.specs.declared.Meaning.{Meaning}
use Rattle.ir_cursor.specs.declared.Meaning.TheVariants.{Keyword, Local, Global, Label, Number, Text, Mark, Other}

abbrev pub symbol_from : List ℕ → Meaning → Symbol
symbol_from text (Keyword keyword) = KeywordSymbol keyword
symbol_from text (Local t) = LocalSymbol (name_of text t)
symbol_from text (Global t) = GlobalSymbol (name_of text t)
symbol_from text (Label t) = LabelSymbol (name_of text t)
symbol_from text (Number z) = NumberSymbol z
symbol_from text (Text t) = TextSymbol (unescaped (text_spelling text t))
symbol_from text (Mark b) = MarkSymbol b
symbol_from text Other = OtherSymbol
