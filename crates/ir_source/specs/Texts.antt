-- Which module a text has, and why a text is refused.
use Rattle.std.specs.Prelude.{◌≡◌, ℕ, List, Some, None, Result, Ok, Err}
use Rattle.ir_lex.specs.Tokens.{AreTokens, IsBad}
use Rattle.ir_lex.specs.Quiet.{kept_of, first_outside}
use Rattle.ir_lex.specs.Symbols.{symbols_of}
use Rattle.ir_lex.specs.declared.token.Token.{Token}
use Rattle.ir_tree.specs.Shape.{ModuleShape}
use Rattle.ir_tree.specs.ShapeOf.{module_shape}
use Rattle.ir_tree.specs.declared.parsed.Parsed.{Parsed}
use Rattle.ir_grammar_modules.specs.Modules.{whole_module}
use Rattle.ir_parse.specs.Answers.{AreShallow, IsWrongAt, IsDeepAt}
use Rattle.ir_parse.specs.Spots.{AreSpots}
use Rattle.ir_source.specs.declared.error.SourceError.{SourceError}
use Rattle.ir_source.specs.declared.error.SourceError.TheVariants.{Bad, Outside, Deep, Syntax, OutOfMemory}

-- the text is tokens, these of them are kept, and of those none is outside the language
pub record AreKept (text : List ℕ) (kept : List Token) : Type 0 where
  pub toks : List Token
  pub are_tokens : AreTokens text toks
  pub are_kept : kept ≡ kept_of text toks
  pub inside : first_outside text (kept_of text toks) ≡ None

-- the text has this module: of its kept tokens at most 64 brackets are open at once, and they spell the module
pub record IsModuleOf (text : List ℕ) (m : ModuleShape) : Type 0 where
  pub kept : List Token
  pub are_kept : AreKept text kept
  pub shallow : AreShallow (symbols_of text kept)
  pub spelled : whole_module (symbols_of text kept) m

-- a kept word is outside the language: the first such one is of so many bytes, at this place
abbrev pub IsOutside : List ℕ → ℕ → ℕ → Type 0
IsOutside text at len = (toks : List Token) × AreTokens text toks × (first_outside text (kept_of text toks) ≡ Some (at, len))

-- why a text is refused, and where: a byte begins no token; a word is outside the language; a bracket is the 65th open one; or at
-- most 64 are open at once, and the kept tokens spell no module
abbrev pub IsRefused : List ℕ → SourceError → Type 0
IsRefused text (Bad at) = IsBad text at
IsRefused text (Outside at len) = IsOutside text at len
IsRefused text (Deep at) = (kept : List Token) × AreKept text kept × IsDeepAt text kept at
IsRefused text (Syntax at) = (kept : List Token) × AreKept text kept × AreShallow (symbols_of text kept) × IsWrongAt text kept at
IsRefused text OutOfMemory = ⊥

-- the answer to a text: its module, or why it is refused; memory may run out at any text
abbrev pub IsRead : List ℕ → Result Parsed SourceError → Type 0
IsRead text (Ok parsed) = IsModuleOf text (module_shape parsed.«module»)
IsRead text (Err OutOfMemory) = Unit {0}
IsRead text (Err error) = IsRefused text error

-- the spots are those of the kept tokens
abbrev pub HasSpots : List ℕ → Parsed → Type 0
HasSpots text parsed = (kept : List Token) × AreKept text kept × AreSpots text kept (module_shape parsed.«module») parsed.spots
