-- What a word stands for.
use Rattle.std.specs.Prelude.{ℕ, Bool, true, false, not, ◌==◌, ◌&&◌, ◌||◌, if◌then◌else◌, nat_lt, List, [], ◌∷◌, ◌++◌, map}
use Rattle.std.specs.Str.{bytes_eq}
use Rattle.std.specs.Str.Parse.{digits_value}
use Rattle.ir_words.specs.Digits.{is_number}
use Rattle.ir_words.specs.declared.words.Keyword.{Keyword}
use Rattle.ir_words.specs.declared.words.Keyword.TheVariants.{HeaderLine, Declare, Call, Align, Comdat, Group, Tail, Quiet, Integer, Outside, Other}
use Rattle.ir_words.specs.Lists.{keyword_head, language_keywords, dropped_words, outside_words}

-- the first of these keywords whose word this is
unfoldable pub spelled_by : List Keyword → List ℕ → Keyword
spelled_by [] w = Other
spelled_by (keyword ∷ keywords) w = if bytes_eq (keyword_head keyword) w then keyword else spelled_by keywords w

-- what a word stands for by a table: what the first row of this word says
unfoldable pub listed : List (List ℕ × Keyword) → List ℕ → Keyword
listed [] w = Other
listed (row ∷ rows) w = if bytes_eq row.0 w then row.1 else listed rows w

-- the word is one of these
unfoldable pub is_among : List (List ℕ) → List ℕ → Bool
is_among [] w = false
is_among (word ∷ words) w = bytes_eq word w || is_among words w

-- no word stands twice in the list
unfoldable pub are_distinct : List (List ℕ) → Bool
are_distinct [] = true
are_distinct (word ∷ words) = not (is_among words word) && are_distinct words

-- whether digits begin with a zero
abbrev pub has_leading_zero : List ℕ → Bool
has_leading_zero [] = false
has_leading_zero (b ∷ bs) = b == 48

-- a width of an integer type, in digits: a number of 1 to 64 without a leading zero
abbrev pub is_width : List ℕ → Bool
is_width digits = not (has_leading_zero digits) && nat_lt (digits_value 10 digits) 65

-- what `i` and these digits stand for: an integer type of that width, or nothing in the language
abbrev pub width_keyword : List ℕ → Keyword
width_keyword digits = if is_width digits then Integer (digits_value 10 digits) else Outside

-- `i` and digits
abbrev pub is_integer_word : List ℕ → Bool
is_integer_word [] = false
is_integer_word (b ∷ bs) = (b == 105) && is_number bs

-- what `i` and digits stand for
abbrev pub integer_keyword : List ℕ → Keyword
integer_keyword [] = Other
integer_keyword (b ∷ bs) = width_keyword bs

-- what a word of a module stands for
unfoldable pub language_word : List ℕ → Keyword
language_word w = spelled_by language_keywords w

-- what a word that is dropped stands for
unfoldable pub dropped_word : List ℕ → Keyword
dropped_word w = listed dropped_words w

-- what a word that is outside the language stands for
unfoldable pub outside_word : List ℕ → Keyword
outside_word w = if is_among outside_words w then Outside else Other

-- every word that stands for a keyword, in the order of the lists
unfoldable pub all_words : List (List ℕ)
all_words = map keyword_head language_keywords ++ (map (λ row. row.0) dropped_words ++ outside_words)

-- the word stands for nothing
abbrev pub is_other : Keyword → Bool
is_other Other = true
is_other _ = false

-- what one table tells, or else a later one
abbrev pub or_else : Keyword → Keyword → Keyword
or_else keyword later = if is_other keyword then later else keyword

-- what a word stands for: `i` and digits is an integer type or outside the language, and of any other word the tables tell
unfoldable pub keyword_of : List ℕ → Keyword
keyword_of w = if is_integer_word w then integer_keyword w else or_else (language_word w) (or_else (dropped_word w) (outside_word w))

-- a line that begins with the word is dropped
abbrev pub is_header : Keyword → Bool
is_header HeaderLine = true
is_header _ = false

-- the word may begin a line that declares or calls a note to the optimizer
abbrev pub is_caller : Keyword → Bool
is_caller Declare = true
is_caller Call = true
is_caller Tail = true
is_caller _ = false

-- `align`
abbrev pub is_align : Keyword → Bool
is_align Align = true
is_align _ = false

-- `comdat`
abbrev pub is_comdat : Keyword → Bool
is_comdat Comdat = true
is_comdat _ = false

-- a group may follow the word, which is dropped with it
abbrev pub is_group_word : Keyword → Bool
is_group_word Group = true
is_group_word Comdat = true
is_group_word _ = false

-- the word is dropped alone
abbrev pub is_quiet_word : Keyword → Bool
is_quiet_word Quiet = true
is_quiet_word Tail = true
is_quiet_word _ = false

-- the word is outside the language
abbrev pub is_outside_word : Keyword → Bool
is_outside_word Outside = true
is_outside_word _ = false
