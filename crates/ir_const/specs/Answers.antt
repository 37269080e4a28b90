-- What a reader of types or constants answers.
use Rattle.std.specs.Prelude.{◌≡◌, ℕ, ◌+◌, ◌<◌, ◌≤◌, List, length, drop, take, Result, Ok, Err}
use Rattle.grammar.specs.Language.{Lang}
use Rattle.grammar.specs.Reader.{Got, Wrong}
use Rattle.grammar.specs.FirstWrong.{Reads}
use Rattle.ir_lex.specs.Symbols.{Symbol, symbols_of}
use Rattle.ir_lex.specs.declared.token.Token.{Token}
use Rattle.ir_grammar_consts.specs.Depth.{IsDeep, IsShallow}
use Rattle.ir_const.specs.Places.{place_of}
use Rattle.ir_const.specs.declared.error.ReadError.{ReadError}
use Rattle.ir_const.specs.declared.error.ReadError.TheVariants.{Deep, Syntax, OutOfMemory}

-- what the tokens from that number on mean
abbrev pub symbols_from : List ℕ → List Token → ℕ → List Symbol
symbols_from text toks k = drop k (symbols_of text toks)

-- `Ok`: the value, seen by view, that the tokens from there on spell, and the number of the next token, and
-- no brackets nest too deep. `Syntax`: the place of the first wrong token, where no tokens from there on
-- spell a value and no brackets nest too deep. `Deep`: the place of the first bracket that is the 65th open
-- one, where the tokens up to and with it begin to spell a value.
abbrev pub Answers : {V A : Type 0} → Lang Symbol V → (A → V) → List ℕ → List Token → ℕ → Result (A × ℕ) ReadError → Type 0
Answers L view text toks from (Ok x) =
    Reads L (symbols_from text toks from) (Got (view x.0) (symbols_from text toks x.1)) × (x.1 ≤ length toks) × IsShallow L (symbols_from text toks from)
Answers L view text toks from (Err (Syntax at)) =
    (k : ℕ) × (k ≤ length toks) × (at ≡ place_of text toks k) × Reads L (symbols_from text toks from) (Wrong (symbols_from text toks k))
    × IsShallow L (symbols_from text toks from)
Answers L view text toks from (Err (Deep at)) =
    (k : ℕ) × (k < length toks) × (at ≡ place_of text toks k) × (count : ℕ) × (from + count ≡ k + 1) × IsDeep L (take count (symbols_from text toks from))
Answers L view text toks from (Err OutOfMemory) = Unit {0}
