-- The printed form of symbols: one symbol's text, and symbols in a row with blanks between them.
use Rattle.std.specs.Prelude.{◌≡◌, ℕ, ℤ, pos, negsuc, Bool, true, false, not, ◌==◌, ◌&&◌, ◌||◌, ◌<◌, ◌^◌, ◌/◌, ◌%◌, nat_lt, if◌then◌else◌, List, [], ◌∷◌, ◌++◌, codes}
use Rattle.std.specs.List.{list_all}
use Rattle.std.specs.Fmt.{decimal, signed_decimal, digit_glyph}
use Rattle.ir_words.specs.Digits.{Passes}
use Rattle.ir_words.specs.Lists.{keyword_head}
use Rattle.ir_words.specs.declared.words.Keyword.{Keyword}
use Rattle.ir_words.specs.declared.words.Keyword.TheVariants.{HeaderLine, Align, Comdat, Group, Tail, Quiet, Integer, Outside, Other}
use Rattle.ir_lex.specs.Bytes.{is_name_byte, is_punct, is_blank}
use Rattle.ir_lex.specs.Symbols.{Symbol, KeywordSymbol, LocalSymbol, GlobalSymbol, LabelSymbol, NumberSymbol, TextSymbol, MarkSymbol, OtherSymbol}

-- the width of an integer type, in digits
abbrev pub keyword_width : Keyword → List ℕ
keyword_width (Integer width) = decimal width
keyword_width _ = []

-- the word that stands for a keyword
abbrev pub text_of_keyword : Keyword → List ℕ
text_of_keyword keyword = keyword_head keyword ++ keyword_width keyword

-- a byte that stands for itself in quotes: from 0x20 to 0x7e, but neither `"` nor `\`
unfoldable pub stands_for_itself : ℕ → Bool
stands_for_itself b = nat_lt 31 b && nat_lt b 127 && not (b == 34) && not (b == 92)

-- a byte in quotes: itself, or `\` and two upper-case hexadecimal digits
abbrev pub escaped_byte : ℕ → List ℕ
escaped_byte b = if stands_for_itself b then b ∷ [] else 92 ∷ digit_glyph true (b / 16) ∷ digit_glyph true (b % 16) ∷ []

abbrev pub escaped : List ℕ → List ℕ
escaped [] = []
escaped (b ∷ bs) = escaped_byte b ++ escaped bs

-- bytes in quotes
abbrev pub quoted : List ℕ → List ℕ
quoted bytes = 34 ∷ (escaped bytes ++ 34 ∷ [])

-- bytes of names alone, at least one
abbrev pub is_plain_name : List ℕ → Bool
is_plain_name [] = false
is_plain_name (b ∷ bs) = is_name_byte b && list_all is_name_byte bs

-- a name as it is where it is plain, and in quotes where it is not
abbrev pub printed_name : List ℕ → List ℕ
printed_name name = if is_plain_name name then name else quoted name

-- the printed form of one symbol
abbrev pub text_of_symbol : Symbol → List ℕ
text_of_symbol (KeywordSymbol keyword) = text_of_keyword keyword
text_of_symbol (LocalSymbol name) = 37 ∷ printed_name name
text_of_symbol (GlobalSymbol name) = 64 ∷ printed_name name
text_of_symbol (LabelSymbol name) = printed_name name ++ 58 ∷ []
text_of_symbol (NumberSymbol number) = signed_decimal number
text_of_symbol (TextSymbol bytes) = 99 ∷ quoted bytes
text_of_symbol (MarkSymbol byte) = byte ∷ []
text_of_symbol OtherSymbol = []

-- each number is one of a byte
abbrev pub AreBytes : List ℕ → Type 0
AreBytes = Passes (λ b. nat_lt b 256)

-- one word stands for the keyword
abbrev pub HasWord : Keyword → Type 0
HasWord (Integer width) = (0 < width) × (width < 65)
HasWord HeaderLine = ⊥
HasWord Align = ⊥
HasWord Comdat = ⊥
HasWord Group = ⊥
HasWord Tail = ⊥
HasWord Quiet = ⊥
HasWord Outside = ⊥
HasWord Other = ⊥
HasWord _ = Unit {0}

-- a number fits 128 bits with a sign
abbrev pub IsWithin128 : ℤ → Type 0
IsWithin128 (pos n) = n < 2 ^ 127
IsWithin128 (negsuc n) = n < 2 ^ 127

-- a symbol that can be printed
abbrev pub IsPrintable : Symbol → Type 0
IsPrintable (KeywordSymbol keyword) = HasWord keyword
IsPrintable (LocalSymbol name) = AreBytes name
IsPrintable (GlobalSymbol name) = AreBytes name
IsPrintable (LabelSymbol name) = AreBytes name
IsPrintable (NumberSymbol number) = IsWithin128 number
IsPrintable (TextSymbol bytes) = AreBytes bytes
IsPrintable (MarkSymbol byte) = is_punct byte ≡ true
IsPrintable OtherSymbol = ⊥

abbrev pub ArePrintable : List Symbol → Type 0
ArePrintable [] = Unit {0}
ArePrintable (s ∷ ss) = IsPrintable s × ArePrintable ss

abbrev pub is_mark : ℕ → Symbol → Bool
is_mark b (MarkSymbol byte) = byte == b
is_mark b _ = false

-- `(`, `[` or `{`
abbrev pub is_opening : Symbol → Bool
is_opening s = is_mark 40 s || is_mark 91 s || is_mark 123 s

-- `)`, `]`, `}` or `,`
abbrev pub is_closing : Symbol → Bool
is_closing s = is_mark 41 s || is_mark 93 s || is_mark 125 s || is_mark 44 s

abbrev pub is_global : Symbol → Bool
is_global (GlobalSymbol name) = true
is_global _ = false

-- no blank stands between the two: the first opens, the second closes or is a comma, a global has its `(`, or a packed struct begins by `<{` or ends by `}>`
abbrev pub touches : Symbol → Symbol → Bool
touches a b =
    is_opening a || is_closing b || (is_global a && is_mark 40 b) || (is_mark 60 a && is_mark 123 b) || (is_mark 125 a && is_mark 62 b)

-- what stands between two symbols: one blank, or nothing
abbrev pub between : Symbol → Symbol → List ℕ
between a b = if touches a b then [] else 32 ∷ []

-- the printed form of symbols that follow one, with what stands before each
abbrev pub joined_after : Symbol → List Symbol → List ℕ
joined_after a [] = []
joined_after a (s ∷ ss) = between a s ++ (text_of_symbol s ++ joined_after s ss)

-- the printed form of symbols in a row
abbrev pub joined : List Symbol → List ℕ
joined [] = []
joined (s ∷ ss) = text_of_symbol s ++ joined_after s ss

-- the last symbol of a row that follows one
abbrev pub last_of : Symbol → List Symbol → Symbol
last_of a [] = a
last_of a (s ∷ ss) = last_of s ss

-- a symbol, and the blanks before it
pub record Spaced : Type 0 where
  pub gap : List ℕ
  pub symbol : Symbol

-- the text of symbols that are laid out on lines, each after its blanks
abbrev pub laid_out : List Spaced → List ℕ
laid_out [] = []
laid_out (x ∷ xs) = x.gap ++ (text_of_symbol x.symbol ++ laid_out xs)

abbrev pub symbols_in : List Spaced → List Symbol
symbols_in [] = []
symbols_in (x ∷ xs) = x.symbol ∷ symbols_in xs

-- blanks, line feeds among them
abbrev pub AreBlanks : List ℕ → Type 0
AreBlanks = Passes is_blank

-- the symbols are apart where each gap is blanks, and only two that touch have none between them
abbrev pub AreApartBehind : Symbol → List Spaced → Type 0
AreApartBehind a [] = Unit {0}
AreApartBehind a (x ∷ xs) = AreBlanks x.gap × (x.gap ≡ [] → touches a x.symbol ≡ true) × AreApartBehind x.symbol xs

abbrev pub AreApart : List Spaced → Type 0
AreApart [] = Unit {0}
AreApart (x ∷ xs) = AreBlanks x.gap × AreApartBehind x.symbol xs

-- a line: its indent, and a row of symbols
pub record Line : Type 0 where
  pub indent : List ℕ
  pub row : List Symbol

-- the text of lines, each with a line feed at its end
abbrev pub text_of_lines : List Line → List ℕ
text_of_lines [] = []
text_of_lines (l ∷ ls) = l.indent ++ (joined l.row ++ 10 ∷ text_of_lines ls)

-- the symbols of lines
abbrev pub rows_of : List Line → List Symbol
rows_of [] = []
rows_of (l ∷ ls) = l.row ++ rows_of ls

-- each indent is blanks
abbrev pub AreIndented : List Line → Type 0
AreIndented [] = Unit {0}
AreIndented (l ∷ ls) = AreBlanks l.indent × AreIndented ls

-- a symbol that a text of bytes can spell: its name or its string is bytes, and its number fits 128 bits with a sign
abbrev pub IsReadable : Symbol → Type 0
IsReadable (KeywordSymbol keyword) = Unit {0}
IsReadable (LocalSymbol name) = AreBytes name
IsReadable (GlobalSymbol name) = AreBytes name
IsReadable (LabelSymbol name) = AreBytes name
IsReadable (NumberSymbol number) = IsWithin128 number
IsReadable (TextSymbol bytes) = AreBytes bytes
IsReadable (MarkSymbol byte) = Unit {0}
IsReadable OtherSymbol = Unit {0}

abbrev pub AreReadable : List Symbol → Type 0
AreReadable [] = Unit {0}
AreReadable (s ∷ ss) = IsReadable s × AreReadable ss
