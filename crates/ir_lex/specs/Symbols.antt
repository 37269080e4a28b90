-- What a token means to a grammar: one symbol, which has no quotes, escapes, offsets and digits left.
use Rattle.std.specs.Prelude.{ℕ, ℤ, pos, neg_ℤ, ◌+◌, ◌^◌, ◌==◌, ◌&&◌, if◌then◌else◌, nat_lt, List, [], ◌∷◌, map, Option, None, Some}
use Rattle.std.specs.Option.{option_map}
use Rattle.std.specs.Str.Parse.{digits_value}
use Rattle.ir_words.specs.Digits.{is_number}
use Rattle.ir_words.specs.Words.{keyword_of}
use Rattle.ir_lex.specs.Meaning.{spelling, name_of, text_spelling, unescaped}
use Rattle.ir_lex.specs.declared.token.Token.{Token}
use Rattle.ir_lex.specs.declared.token.Kind.{Kind}
use Rattle.ir_lex.specs.declared.token.Kind.TheVariants.{Local, Global, CStr, Label, Int, Word, Punct}
use Rattle.ir_words.specs.declared.words.Keyword.{Keyword}
use Rattle.ir_words.specs.declared.words.Keyword.TheVariants.{Other}

-- what a token means
pub data Symbol : Type 0 where
  -- a word, by what it stands for; a word that stands for nothing is the keyword `Other`
  KeywordSymbol : (keyword : Keyword) → Symbol
  -- the names of a local, a global and a label
  LocalSymbol : (name : List ℕ) → Symbol
  GlobalSymbol : (name : List ℕ) → Symbol
  LabelSymbol : (name : List ℕ) → Symbol
  -- an integer that fits 128 bits with a sign
  NumberSymbol : (number : ℤ) → Symbol
  -- the bytes of a string that is a constant
  TextSymbol : (bytes : List ℕ) → Symbol
  -- a byte of punctuation
  MarkSymbol : (byte : ℕ) → Symbol
  -- what no grammar takes: floats, metas, hashes and strings
  OtherSymbol : Symbol

-- the number of these digits, where they are digits and their number is below the limit
abbrev pub number_below : ℕ → List ℕ → Option ℕ
number_below limit w = if is_number w && nat_lt (digits_value 10 w) limit then Some (digits_value 10 w) else None

-- the number that digits spell, with a minus sign or without one, where it fits 128 bits with a sign
abbrev pub integer_value : List ℕ → Option ℤ
integer_value [] = None
integer_value (b ∷ bs) =
    if b == 45 then option_map (λ n. neg_ℤ (pos n)) (number_below (2 ^ 127 + 1) bs)
    else option_map pos (number_below (2 ^ 127) (b ∷ bs))

-- the symbol of an integer
abbrev pub number_symbol : Option ℤ → Symbol
number_symbol None = OtherSymbol
number_symbol (Some z) = NumberSymbol z

-- the symbol of the byte that the list begins with
abbrev pub mark_symbol : List ℕ → Symbol
mark_symbol [] = OtherSymbol
mark_symbol (b ∷ bs) = MarkSymbol b

-- what a token means
abbrev pub symbol_of : List ℕ → Token → Symbol
symbol_of text t = by_kind t.kind (spelling text t)
  where
    by_kind : Kind → List ℕ → Symbol
    by_kind Word w = KeywordSymbol (keyword_of w)
    by_kind Local w = LocalSymbol (name_of text t)
    by_kind Global w = GlobalSymbol (name_of text t)
    by_kind Label w = LabelSymbol (name_of text t)
    by_kind Int w = number_symbol (integer_value w)
    by_kind CStr w = TextSymbol (unescaped (text_spelling text t))
    by_kind Punct w = mark_symbol w
    by_kind _ w = OtherSymbol

-- what the tokens of a text mean
abbrev pub symbols_of : List ℕ → List Token → List Symbol
symbols_of text toks = map (symbol_of text) toks

-- what the word of a symbol stands for; `Other` where it is no word
abbrev pub keyword_in : Symbol → Keyword
keyword_in (KeywordSymbol keyword) = keyword
keyword_in _ = Other

-- the name of a symbol, or none
abbrev pub name_in : Symbol → List ℕ
name_in (LocalSymbol name) = name
name_in (GlobalSymbol name) = name
name_in (LabelSymbol name) = name
name_in _ = []

-- the number of a symbol
abbrev pub number_in : Symbol → Option ℤ
number_in (NumberSymbol number) = Some number
number_in _ = None

-- the bytes of the string of a symbol, or none
abbrev pub text_in : Symbol → List ℕ
text_in (TextSymbol bytes) = bytes
text_in _ = []

-- the byte of punctuation of a symbol
abbrev pub mark_in : Symbol → Option ℕ
mark_in (MarkSymbol byte) = Some byte
mark_in _ = None
