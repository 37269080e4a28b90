-- From the tokens that are kept of a text to its module, or to why it is refused.
use Rattle.std.proofs.Common.{◌≡◌, ℕ, ◌≤◌, List, length, ap, arith, Result, Ok, Err, Vec, IfOk}
use Rattle.std.specs.declared.alloc.Global.{Global}
use Rattle.ir_lex.specs.Tokens.{AreTokens}
use Rattle.ir_lex.specs.Quiet.{kept_of}
use Rattle.ir_lex.specs.declared.error.LexError.{LexError}
use Rattle.ir_lex.specs.declared.error.LexError.TheVariants as lex
use Rattle.ir_lex.specs.declared.token.Token.{Token}
use Rattle.ir_parse.specs.Answers.{Parses}
use Rattle.ir_parse.specs.declared.error.ParseError.{ParseError}
use Rattle.ir_parse.specs.declared.error.ParseError.TheVariants as parse
use Rattle.ir_tree.specs.ShapeOf.{module_shape}
use Rattle.ir_tree.specs.declared.parsed.Parsed.{Parsed}
use Rattle.ir_source.specs.Texts.{AreKept, IsModuleOf, IsRead}
use Rattle.ir_source.specs.Errors.{KeepsNone, of_lex, of_parse}
use Rattle.ir_source.proofs.FewTokens.{tokens_few}

-- no more tokens are kept than the text has bytes
pub few_kept : (r : Result (Vec Token Global) LexError) (text : List ℕ) (toks : List Token) → AreTokens text toks → IfOk r (λ kept. kept.items ≡ kept_of text toks) → IfOk r (λ kept. length kept.items ≤ length text)
few_kept (Ok kept) text toks are is = omega (arith, ap length is, tokens_few text toks are)
few_kept (Err e) text toks are is = tt

-- no tokens are kept
pub none_kept : (text : List ℕ) (error : LexError) → KeepsNone text error → IsRead text (Err (of_lex error))
none_kept text (lex.Bad at) h = h
none_kept text (lex.Outside at len) h = h
none_kept text lex.OutOfMemory h = tt

-- the kept tokens spell no module, or nest too deep
pub none_parsed : (text : List ℕ) (kept : List Token) (error : ParseError) → AreKept text kept → Parses text kept (Err error) → IsRead text (Err (of_parse error))
none_parsed text kept (parse.Deep at) are deep = (kept, are, deep)
none_parsed text kept (parse.Syntax at) are (wrong, shallow) = (kept, are, shallow, wrong)
none_parsed text kept parse.OutOfMemory are h = tt

-- they spell this module
pub is_module : (text : List ℕ) (kept : List Token) (parsed : Parsed) → AreKept text kept → Parses text kept (Ok parsed) → IsModuleOf text (module_shape parsed.«module»)
is_module text kept parsed are h = record { kept = kept; are_kept = are; shallow = h.1; spelled = h.0 }
