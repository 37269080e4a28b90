-- The words of keywords.
use Rattle.std.proofs.Common.{◌≡◌, ℕ, ◌+◌, ◌/◌, ◌^◌, ◌<◌, ◌≤◌, ◌==◌, ◌&&◌, nat_lt, Bool, true, false, List, [], ◌∷◌, ◌++◌, length, refl, ap, arith}
use Rattle.std.specs.List.{prefix_len, list_all}
use Rattle.std.specs.Char.{digit_value}
use Rattle.std.specs.Fmt.{decimal}
use Rattle.std.specs.Str.Parse.{digits_value, AllDigits}
use Rattle.std.proofs.lemmas.Bool.{eq-eqb}
use Rattle.std.proofs.lemmas.Bool.Decides.{nat_tests}
use Rattle.std.proofs.lemmas.Fmt.{decimal_is_IsNumeral_wide, decimal_digit, decimal_step_wide}
use Rattle.ir_words.specs.Digits.{is_digit, is_number, Passes}
use Rattle.ir_words.specs.Lists.{language_keywords, dropped_words, outside_words}
use Rattle.ir_words.specs.Words.{keyword_of, language_word, dropped_word, outside_word, spelled_by, listed, is_among, has_leading_zero, is_width}
use Rattle.ir_words.specs.declared.words.Keyword.{Keyword}
use Rattle.ir_words.specs.declared.words.Keyword.TheVariants.{HeaderLine, Align, Comdat, Group, Tail, Quiet, Integer, Outside, Other}
use Rattle.ir_lex.specs.Bytes.{is_name_byte, is_word_start}
use Rattle.ir_lex.specs.Spelling.{IsRun}
use Rattle.ir_print_symbols.specs.Printed.{text_of_keyword, HasWord}

-- the digits of a number below 2 ^ 128

digit_is : (b : ℕ) → digit_value b < 10 → is_digit b ≡ true
unfolding is_digit
digit_is b h = grind (arith, nat_tests)

digits_pass : (w : List ℕ) → AllDigits 10 w → Passes is_digit w
digits_pass [] h = tt
digits_pass (b ∷ w) h = (digit_is b h.0, digits_pass w h.1)

run_from : (p : ℕ → Bool) (w : List ℕ) → 0 < length w → Passes p w → IsRun p w
run_from p [] l h = absurd (omega arith)
run_from p (b ∷ w) l h = h

pub decimal_run : (n : ℕ) → n < 2 ^ 128 → IsRun is_digit (decimal n)
decimal_run n h = let d = decimal_is_IsNumeral_wide n (omega arith) in run_from is_digit (decimal n) d.0.0 (digits_pass (decimal n) d.0.1)

pub decimal_value : (n : ℕ) → n < 2 ^ 128 → digits_value 10 (decimal n) ≡ n
decimal_value n h = (decimal_is_IsNumeral_wide n (omega arith)).1

all_len : (p : ℕ → Bool) (w : List ℕ) → Passes p w → prefix_len p w ≡ length w
all_len p [] h = refl
all_len p (b ∷ w) h = rw h.0 (omega (arith, all_len p w h.1))

none_empty : (n : ℕ) → 0 < n → (n == 0) ≡ false
none_empty n h = grind (arith, nat_tests)

-- one or more digits are a number
pub run_is_number : (w : List ℕ) → IsRun is_digit w → is_number w ≡ true
run_is_number [] h = absurd h
run_is_number (b ∷ w) h = rw (all_len is_digit (b ∷ w) h, none_empty (length (b ∷ w)) (omega arith), eq-eqb (length (b ∷ w)) (length (b ∷ w)) refl) refl

pub below_is : (m n : ℕ) → m < n → nat_lt m n ≡ true
below_is m n h = grind (arith, nat_tests)

-- the word of an integer type

glyph_no_zero : (d : ℕ) → 0 < d → ((48 + d) == 48) ≡ false
glyph_no_zero d h = grind (arith, nat_tests)

zero_first : (v w : List ℕ) → 0 < length v → has_leading_zero (v ++ w) ≡ has_leading_zero v
zero_first [] w h = absurd (omega arith)
zero_first (b ∷ v) w h = refl

no_leading_zero : (n : ℕ) → 0 < n → n < 65 → has_leading_zero (decimal n) ≡ false
no_leading_zero n h l = by_test (nat_lt n 10) refl
  where
    by_test : (t : Bool) → nat_lt n 10 ≡ t → has_leading_zero (decimal n) ≡ false
    by_test true e = let small : n < 10 = grind (arith, nat_tests) in rw (decimal_digit n small) (glyph_no_zero n h)
    by_test false e =
        let large : 10 ≤ n = grind (arith, nat_tests) in
        let tens : n / 10 < 10 = omega arith in
        let some : 0 < n / 10 = omega arith in
        rw (decimal_step_wide n large (omega arith), decimal_digit (n / 10) tens) (glyph_no_zero (n / 10) some)

width_is : (n : ℕ) → 0 < n → n < 65 → is_width (decimal n) ≡ true
width_is n h l = rw (no_leading_zero n h l, decimal_value n (omega arith), below_is n 65 l) refl

integer_word : (n : ℕ) → 0 < n → n < 65 → keyword_of (105 ∷ decimal n) ≡ Integer n
unfolding keyword_of
integer_word n h l = rw (run_is_number (decimal n) (decimal_run n (omega arith)), width_is n h l) (ap Integer (decimal_value n (omega arith)))

-- a word: a byte that words begin with, and then bytes of names
abbrev pub is_word : List ℕ → Bool
is_word [] = false
is_word (b ∷ bs) = is_word_start b && list_all is_name_byte bs

digit_named : (x : ℕ) → is_digit x ≡ true → is_name_byte x ≡ true
unfolding is_name_byte is_digit
digit_named x h = grind (arith, nat_tests)

digits_named : (w : List ℕ) → Passes is_digit w → list_all is_name_byte w ≡ true
digits_named [] h = refl
digits_named (b ∷ w) h = rw (digit_named b h.0) (digits_named w h.1)

run_passes : (p : ℕ → Bool) (w : List ℕ) → IsRun p w → Passes p w
run_passes p [] h = absurd h
run_passes p (b ∷ w) h = h

integer_is_word : (n : ℕ) → n < 65 → is_word (105 ∷ decimal n) ≡ true
unfolding is_word_start
integer_is_word n l = digits_named (decimal n) (run_passes is_digit (decimal n) (decimal_run n (omega arith)))

-- a keyword's word is a word
pub keyword_is_word : (k : Keyword) → HasWord k → is_word (text_of_keyword k) ≡ true
unfolding is_word_start is_name_byte
keyword_is_word (Integer n) h = integer_is_word n h.1
keyword_is_word HeaderLine h = absurd h
keyword_is_word Align h = absurd h
keyword_is_word Comdat h = absurd h
keyword_is_word Group h = absurd h
keyword_is_word Tail h = absurd h
keyword_is_word Quiet h = absurd h
keyword_is_word Outside h = absurd h
keyword_is_word Other h = absurd h
keyword_is_word k h = refl

-- a keyword's word stands for it
pub keyword_back : (k : Keyword) → HasWord k → keyword_of (text_of_keyword k) ≡ k
unfolding keyword_of language_word dropped_word outside_word spelled_by listed is_among language_keywords dropped_words outside_words is_digit
keyword_back (Integer n) h = integer_word n h.0 h.1
keyword_back HeaderLine h = absurd h
keyword_back Align h = absurd h
keyword_back Comdat h = absurd h
keyword_back Group h = absurd h
keyword_back Tail h = absurd h
keyword_back Quiet h = absurd h
keyword_back Outside h = absurd h
keyword_back Other h = absurd h
keyword_back k h = refl
