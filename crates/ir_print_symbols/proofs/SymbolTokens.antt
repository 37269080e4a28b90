-- A printed symbol is one token, and means that symbol.
use Rattle.std.proofs.Common.{◌≡◌, ℕ, pos, negsuc, suc, ◌+◌, ◌-◌, ◌^◌, Bool, true, List, [], ◌∷◌, ◌++◌, length, take, drop, Some, refl, sym, ap, ◌∙◌, subst, append_assoc, arith}
use Rattle.std.specs.Fmt.{decimal}
use Rattle.std.specs.List.{list_all}
use Rattle.std.proofs.lemmas.List.{length-append, take_at, drop_at}
use Rattle.ir_words.specs.Words.{keyword_of}
use Rattle.ir_lex.specs.Bytes.{is_name_byte, is_word_start}
use Rattle.ir_lex.specs.Tokens.{IsToken}
use Rattle.ir_lex.specs.Lengths.{first_token}
use Rattle.ir_lex.specs.Meaning.{spelling, unescaped, unquoted}
use Rattle.ir_lex.specs.Symbols.{Symbol, KeywordSymbol, LocalSymbol, GlobalSymbol, LabelSymbol, NumberSymbol, TextSymbol, MarkSymbol, OtherSymbol, symbol_of, number_symbol, mark_symbol, integer_value}
use Rattle.ir_lex.specs.declared.token.Token.{Token}
use Rattle.ir_lex.specs.declared.token.Kind.{Kind}
use Rattle.ir_lex.specs.declared.token.Kind.TheVariants.{Local, Global, CStr, Label, Str, Float, Int, Word, Meta, Hash, Punct}
use Rattle.ir_lex.proofs.Order.{first_token-some}
use Rattle.ir_print_symbols.specs.Printed.{text_of_symbol, text_of_keyword, printed_name, quoted, IsPrintable}
use Rattle.ir_print_symbols.proofs.Firsts.{Separates, separates-stops, first-mark, first-local, first-global, first-text, first-label, first-word, first-digits, first-negative}
use Rattle.ir_print_symbols.proofs.Names.{all_pass, and_true, quoted_is_string, quoted_back, printed_is_name, name_back, label_back}
use Rattle.ir_print_symbols.proofs.WordTexts.{is_word, keyword_is_word, keyword_back}
use Rattle.ir_print_symbols.proofs.Numbers.{integer_back, decimal_below}

-- the kind of the token of a symbol
abbrev pub kind_of : Symbol → Kind
kind_of (KeywordSymbol k) = Word
kind_of (LocalSymbol n) = Local
kind_of (GlobalSymbol n) = Global
kind_of (LabelSymbol n) = Label
kind_of (NumberSymbol z) = Int
kind_of (TextSymbol bs) = CStr
kind_of (MarkSymbol b) = Punct
kind_of OtherSymbol = Str

-- what a token of this kind and spelling means
abbrev pub meaning : Kind → List ℕ → Symbol
meaning Word w = KeywordSymbol (keyword_of w)
meaning Local w = LocalSymbol (unescaped (unquoted (drop 1 w)))
meaning Global w = GlobalSymbol (unescaped (unquoted (drop 1 w)))
meaning Label w = LabelSymbol (unescaped (unquoted (take (length w - 1) w)))
meaning Int w = number_symbol (integer_value w)
meaning CStr w = TextSymbol (unescaped (unquoted (drop 1 w)))
meaning Punct w = mark_symbol w
meaning _ w = OtherSymbol

meaning_at : (text : List ℕ) (k : Kind) (start to : ℕ) (first : Bool)
    → let t : Token = record { kind = k; start = start; «end» = to; first = first } in symbol_of text t ≡ meaning k (spelling text t)
meaning_at text Local s e f = refl
meaning_at text Global s e f = refl
meaning_at text CStr s e f = refl
meaning_at text Label s e f = refl
meaning_at text Str s e f = refl
meaning_at text Float s e f = refl
meaning_at text Int s e f = refl
meaning_at text Word s e f = refl
meaning_at text Meta s e f = refl
meaning_at text Hash s e f = refl
meaning_at text Punct s e f = refl

-- a token means what its kind and spelling say
pub symbol_of-meaning : (text : List ℕ) (t : Token) → symbol_of text t ≡ meaning t.kind (spelling text t)
symbol_of-meaning text t = meaning_at text t.kind t.start t.end t.first

-- the printed form of a symbol means it
pub printed_back : (s : Symbol) → IsPrintable s → meaning (kind_of s) (text_of_symbol s) ≡ s
printed_back (KeywordSymbol k) h = ap KeywordSymbol (keyword_back k h)
printed_back (LocalSymbol n) h = ap LocalSymbol (name_back n h)
printed_back (GlobalSymbol n) h = ap GlobalSymbol (name_back n h)
printed_back (LabelSymbol n) h = ap LabelSymbol (label_back n h)
printed_back (NumberSymbol z) h = ap number_symbol (integer_back z h)
printed_back (TextSymbol bs) h = ap TextSymbol (quoted_back bs h)
printed_back (MarkSymbol b) h = refl
printed_back OtherSymbol h = absurd h

-- a mark may stand before anything, another symbol before what separates
abbrev pub MayStandBefore : Symbol → List ℕ → Type 0
MayStandBefore (MarkSymbol b) r = Unit {0}
MayStandBefore _ r = Separates r

first_of_word : (w r : List ℕ) → is_word w ≡ true → Separates r → first_token (w ++ r) ≡ Some (Word, length w)
first_of_word [] r e s = absurd (cc)
first_of_word (x ∷ v) r e s =
    let both = and_true (is_word_start x) (list_all is_name_byte v) e in
    first-word x v r both.0 (all_pass is_name_byte v both.1) s

first_of : (s : Symbol) (r : List ℕ) → IsPrintable s → MayStandBefore s r → first_token (text_of_symbol s ++ r) ≡ Some (kind_of s, length (text_of_symbol s))
first_of (KeywordSymbol k) r h m = first_of_word (text_of_keyword k) r (keyword_is_word k h) m
first_of (LocalSymbol n) r h m = first-local (printed_name n) r (printed_is_name n) (separates-stops r m)
first_of (GlobalSymbol n) r h m = first-global (printed_name n) r (printed_is_name n) (separates-stops r m)
first_of (LabelSymbol n) r h m = label_first (printed_name n) r (first-label (printed_name n) r (printed_is_name n))
  where
    label_first : (w t : List ℕ) → first_token (w ++ (58 ∷ t)) ≡ Some (Label, length w + 1) → first_token ((w ++ 58 ∷ []) ++ t) ≡ Some (Label, length (w ++ 58 ∷ []))
    label_first w t e = rw (append_assoc w (58 ∷ []) t, length-append w (58 ∷ [])) e
first_of (NumberSymbol (pos n)) r h m = first-digits (decimal n) r (decimal_below (2 ^ 127) n (omega arith) h) m
first_of (NumberSymbol (negsuc n)) r h m = first-negative (decimal (suc n)) r (decimal_below (2 ^ 127 + 1) (suc n) (omega arith) (omega arith)) m
first_of (TextSymbol bs) r h m = first-text (quoted bs) r (quoted_is_string bs)
first_of (MarkSymbol b) r h m = first-mark b r h
first_of OtherSymbol r h m = absurd h

same_cut : (v w a b : List ℕ) → length v ≡ length w → v ++ a ≡ w ++ b → (v ≡ w) × (a ≡ b)
same_cut v w a b l e = (
  sym (take_at v a (length v) refl) ∙ ap (take (length v)) e ∙ take_at w b (length v) (sym l),
  sym (drop_at v a (length v) refl) ∙ ap (drop (length v)) e ∙ drop_at w b (length v) (sym l),
)

-- the first token of a text that begins so long
token_is : (k : Kind) (w r : List ℕ) → first_token (w ++ r) ≡ Some (k, length w) → IsToken k (w ++ r) w r
token_is k w r e =
    let t = first_token-some (w ++ r) k (length w) e in
    let parts : (t.front ≡ w) × (t.rest ≡ r) = same_cut t.front w t.rest r t.long (sym t.token.fits.cut) in
    subst (λ x. IsToken k (w ++ r) w x) parts.1 (subst (λ x. IsToken k (w ++ r) x t.rest) parts.0 t.token)

-- a printed symbol is one token
pub printed_is_token : (s : Symbol) (r : List ℕ) → IsPrintable s → MayStandBefore s r → IsToken (kind_of s) (text_of_symbol s ++ r) (text_of_symbol s) r
printed_is_token s r h m = token_is (kind_of s) (text_of_symbol s) r (first_of s r h m)
