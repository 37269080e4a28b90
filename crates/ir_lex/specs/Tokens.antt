use Rattle.std.specs.Prelude.{◌≡◌, ℕ, Bool, true, false, ◌||◌, ◌==◌, ◌+◌, ◌<◌, ◌≤◌, List, [], ◌∷◌, ◌++◌, length}
use Rattle.ir_lex.specs.Bytes.{is_blank, is_not_line_feed}
use Rattle.ir_lex.specs.Spelling.{Passes, Stops, Spelled, MayPrecede}
use Rattle.ir_lex.specs.declared.error.LexError.{LexError}
use Rattle.ir_lex.specs.declared.error.LexError.TheVariants.{Bad, Outside, OutOfMemory}
use Rattle.ir_lex.specs.declared.token.Token.{Token}
use Rattle.ir_lex.specs.declared.token.Kind.{Kind}
use Rattle.ir_lex.specs.declared.token.Kind.TheVariants.{Local, Global, CStr, Label, Str, Float, Int, Word, Meta, Hash, Punct}

-- the place of a kind in the order in which the rules are tried
abbrev pub rank : Kind → ℕ
rank Local = 0
rank Global = 1
rank CStr = 2
rank Label = 3
rank Str = 4
rank Float = 5
rank Int = 6
rank Word = 7
rank Meta = 8
rank Hash = 9
rank Punct = 10

-- the text is w and then the rest, and w is spelled as the rule of the kind asks
pub record Fits (k : Kind) (text w rest : List ℕ) : Type 0 where
  pub cut : text ≡ w ++ rest
  pub spelled : Spelled k w
  pub before : MayPrecede k rest

-- w is the token that the text begins with: its rule is the first that fits, and it is as long as the rule allows
pub record IsToken (k : Kind) (text w rest : List ℕ) : Type 0 where
  pub fits : Fits k text w rest
  pub longest : (v other : List ℕ) → Fits k text v other → length v ≤ length w
  pub first : (j : Kind) (v other : List ℕ) → rank j < rank k → Fits j text v other → ⊥

-- neither a blank nor a comment begins here
abbrev pub IsNoGap : List ℕ → Type 0
IsNoGap [] = Unit {0}
IsNoGap (b ∷ bs) = (is_blank b ≡ false) × ((b == 59) ≡ false)

-- from one place in a text to a later one: blanks, comments and tokens, with the offset and whether no token stood on the line yet
pub data Path : ℕ → Bool → List ℕ → List Token → ℕ → Bool → List ℕ → Type 0 where
  here : {at : ℕ} {fresh : Bool} {text : List ℕ} → Path at fresh text [] at fresh text
  blank : {at to b : ℕ} {fresh left : Bool} {text rest : List ℕ} {toks : List Token}
      → is_blank b ≡ true → Path (at + 1) (fresh || (b == 10)) text toks to left rest
      → Path at fresh (b ∷ text) toks to left rest
  comment : {at to : ℕ} {fresh left : Bool} {text rest : List ℕ} {toks : List Token} (body after : List ℕ)
      → text ≡ body ++ after → Passes is_not_line_feed body → Stops is_not_line_feed after → Path (at + (1 + length body)) fresh after toks to left rest
      → Path at fresh (59 ∷ text) toks to left rest
  next : {at to : ℕ} {fresh left : Bool} {text rest : List ℕ} {toks : List Token} (k : Kind) (w after : List ℕ)
      → IsNoGap text → IsToken k text w after → Path (at + length w) false after toks to left rest
      → Path at fresh text (record { kind = k; start = at; «end» = at + length w; first = fresh } ∷ toks) to left rest

-- the text is blanks, comments and these tokens, in order
abbrev pub AreTokens : List ℕ → List Token → Type 0
AreTokens text toks = (fresh : Bool) × Path 0 true text toks (length text) fresh []

-- the tokens lie in a text of this size, none of them empty, one after another from an offset on
abbrev pub LieFrom : ℕ → ℕ → List Token → Type 0
LieFrom at size [] = at ≤ size
LieFrom at size (t ∷ toks) = (at ≤ t.start) × (t.start < t.end) × LieFrom t.end size toks

-- the text before the offset is tokens, blanks and comments, and there no token, blank or comment begins
pub record IsBad (text : List ℕ) (at : ℕ) : Type 0 where
  pub toks : List Token
  pub fresh : Bool
  pub rest : List ℕ
  pub path : Path 0 true text toks at fresh rest
  pub more : rest ≡ [] → ⊥
  pub no_gap : IsNoGap rest
  pub no_token : (k : Kind) (w after : List ℕ) → Fits k rest w after → ⊥

-- what each refusal of a text says: `Bad` exactly at the bad place, and memory may run out anywhere
abbrev pub RefusesTokens : List ℕ → LexError → Type 0
RefusesTokens text (Bad at) = IsBad text at
RefusesTokens text (Outside at len) = ⊥
RefusesTokens text OutOfMemory = Unit {0}
