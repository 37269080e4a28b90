-- The parts of a token's symbol are what its bytes say.
use Rattle.std.proofs.Common.{◌≡◌, ℕ, ℤ, Bool, List, [], ◌∷◌, Option, Some, None, refl}
use Rattle.ir_lex.specs.Meaning.{spelling, text_spelling, name_of, unescaped, unescaped_after}
use Rattle.ir_lex.specs.Symbols.{symbol_of, number_symbol, mark_symbol, integer_value, text_in, name_in}
use Rattle.ir_lex.specs.declared.token.Token.{Token}
use Rattle.ir_lex.specs.declared.token.Kind.{Kind}
use Rattle.ir_lex.specs.declared.token.Kind.TheVariants.{Local, Global, CStr, Label, Str, Float, Int, Word, Meta, Hash, Punct}

abbrev token : Kind → ℕ → ℕ → Bool → Token
token kind start to first = record { kind = kind; start = start; «end» = to; first = first }

number_text : (o : Option ℤ) → [] ≡ text_in (number_symbol o)
number_text None = refl
number_text (Some z) = refl

number_name : (o : Option ℤ) → [] ≡ name_in (number_symbol o)
number_name None = refl
number_name (Some z) = refl

mark_text : (w : List ℕ) → [] ≡ text_in (mark_symbol w)
mark_text [] = refl
mark_text (b ∷ w) = refl

mark_name : (w : List ℕ) → [] ≡ name_in (mark_symbol w)
mark_name [] = refl
mark_name (b ∷ w) = refl

text_at : (text : List ℕ) (k : Kind) (start to : ℕ) (first : Bool)
    → unescaped (text_spelling text (token k start to first)) ≡ text_in (symbol_of text (token k start to first))
unfolding unescaped_after
text_at text Local s e f = refl
text_at text Global s e f = refl
text_at text CStr s e f = refl
text_at text Label s e f = refl
text_at text Str s e f = refl
text_at text Float s e f = refl
text_at text Int s e f = number_text (integer_value (spelling text (token Int s e f)))
text_at text Word s e f = refl
text_at text Meta s e f = refl
text_at text Hash s e f = refl
text_at text Punct s e f = mark_text (spelling text (token Punct s e f))

-- the bytes of a string are those of its symbol
pub text_of-symbol_of : (text : List ℕ) (t : Token) → unescaped (text_spelling text t) ≡ text_in (symbol_of text t)
text_of-symbol_of text t = text_at text t.kind t.start t.end t.first

name_at : (text : List ℕ) (k : Kind) (start to : ℕ) (first : Bool)
    → name_of text (token k start to first) ≡ name_in (symbol_of text (token k start to first))
unfolding unescaped_after
name_at text Local s e f = refl
name_at text Global s e f = refl
name_at text CStr s e f = refl
name_at text Label s e f = refl
name_at text Str s e f = refl
name_at text Float s e f = refl
name_at text Int s e f = number_name (integer_value (spelling text (token Int s e f)))
name_at text Word s e f = refl
name_at text Meta s e f = refl
name_at text Hash s e f = refl
name_at text Punct s e f = mark_name (spelling text (token Punct s e f))

-- the name of a token is that of its symbol
pub name_of-symbol_of : (text : List ℕ) (t : Token) → name_of text t ≡ name_in (symbol_of text t)
name_of-symbol_of text t = name_at text t.kind t.start t.end t.first

pub ruleset symbol_parts = (text_of-symbol_of, name_of-symbol_of)
