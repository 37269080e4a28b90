-- A text spells symbols: they are what its tokens mean.
use Rattle.std.specs.Prelude.{◌≡◌, ℕ, List}
use Rattle.ir_lex.specs.Tokens.{AreTokens}
use Rattle.ir_lex.specs.Symbols.{Symbol, symbols_of}
use Rattle.ir_lex.specs.declared.token.Token.{Token}

-- the text's tokens, none dropped, mean these symbols
abbrev pub Spells : List ℕ → List Symbol → Type 0
Spells text ss = (toks : List Token) × AreTokens text toks × (symbols_of text toks ≡ ss)
