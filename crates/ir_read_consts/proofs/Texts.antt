-- The bytes of a string, by its symbol and by its spelling.
use Rattle.std.proofs.Common.{◌≡◌, ℕ, ℤ, List, [], ◌∷◌, Option, None, Some, refl}
use Rattle.ir_lex.specs.Meaning.{spelling, text_spelling, unescaped, unescaped_after}
use Rattle.ir_lex.specs.Symbols.{symbol_of, text_in, number_symbol, mark_symbol, integer_value}
use Rattle.ir_lex.specs.declared.token.Token.{Token}
use Rattle.ir_lex.specs.declared.token.Kind.{Kind}
use Rattle.ir_lex.specs.declared.token.Kind.TheVariants.{Local, Global, CStr, Label, Str, Float, Int, Word, Meta, Hash, Punct}

no_text_number : (o : Option ℤ) → text_in (number_symbol o) ≡ []
no_text_number None = refl
no_text_number (Some z) = refl

no_text_mark : (w : List ℕ) → text_in (mark_symbol w) ≡ []
no_text_mark [] = refl
no_text_mark (b ∷ w) = refl

text_same_at : (text : List ℕ) (k : Kind) (t : Token) → t.kind ≡ k → text_in (symbol_of text t) ≡ unescaped (text_spelling text t)
unfolding unescaped_after spelling
text_same_at text Word t e = rw e refl
text_same_at text Local t e = rw e refl
text_same_at text Global t e = rw e refl
text_same_at text CStr t e = rw e refl
text_same_at text Label t e = rw e refl
text_same_at text Str t e = rw e refl
text_same_at text Float t e = rw e refl
text_same_at text Int t e = rw e (no_text_number (integer_value (spelling text t)))
text_same_at text Meta t e = rw e refl
text_same_at text Hash t e = rw e refl
text_same_at text Punct t e = rw e (no_text_mark (spelling text t))

pub text_same : (text : List ℕ) (t : Token) → text_in (symbol_of text t) ≡ unescaped (text_spelling text t)
text_same text t = text_same_at text t.kind t refl
