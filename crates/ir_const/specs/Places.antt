-- Where tokens stand, and which error says that a reader stopped.
use Rattle.std.specs.Prelude.{ℕ, ◌+◌, ◌-◌, ◌==◌, ◌&&◌, Bool, List, [], ◌∷◌, length, drop, Option, None, Some, if◌then◌else◌}
use Rattle.grammar.specs.declared.Stop.{Stop}
use Rattle.grammar.specs.declared.Stop.TheVariants as stop
use Rattle.ir_lex.specs.declared.token.Token.{Token}
use Rattle.ir_const.specs.declared.error.ReadError.{ReadError}
use Rattle.ir_const.specs.declared.error.ReadError.TheVariants as error

-- the start of the first of these tokens, or the size of the text where there is none
abbrev pub first_start : ℕ → List Token → ℕ
first_start size [] = size
first_start size (t ∷ toks) = t.start

-- the offset of the token of that number, or the length of the text after the last one
abbrev pub place_of : List ℕ → List Token → ℕ → ℕ
place_of text toks k = first_start (length text) (drop k toks)

-- the error where a reader of the tokens before the one numbered `end` stopped at the token numbered k: after
-- the bracket that nests too deep, where the last of them is such, or else at a wrong token
abbrev pub stopped_at : List ℕ → List Token → Bool → ℕ → ℕ → ReadError
stopped_at text toks deep end k = if deep && (end == k) then error.Deep (place_of text toks (k - 1)) else error.Syntax (place_of text toks k)

abbrev pub error_of : List ℕ → List Token → Bool → ℕ → Stop → ReadError
error_of text toks deep end (stop.WrongSymbol k) = stopped_at text toks deep end k
error_of text toks deep end stop.OutOfMemory = error.OutOfMemory

-- the number of the token after the bracket, from the count of symbols up to and with it, which are counted
-- from that number
abbrev pub cut_of : ℕ → Option ℕ → Option ℕ
cut_of from None = None
cut_of from (Some count) = Some (from + count)
