-- The token that a printed symbol begins with is all of it.
use Rattle.std.proofs.Common.{◌≡◌, inl, inr, ℕ, suc, ◌+◌, ◌^◌, ◌==◌, ◌||◌, Bool, true, false, cond, List, [], ◌∷◌, ◌++◌, length, Option, Some, None, refl, sym, ap, ◌∙◌, subst, arith}
use Rattle.std.specs.List.{prefix_len}
use Rattle.std.proofs.lemmas.Bool.{eqb-true, false_from_ne_true}
use Rattle.std.proofs.lemmas.Bool.Decides.{nat_tests}
use Rattle.std.proofs.Math.Seq.{drop-append_seam}
use Rattle.ir_lex.specs.Bytes.{is_digit, is_name_byte, is_word_start, is_punct, is_sign}
use Rattle.ir_lex.specs.Spelling.{Passes, IsRun, Stops, IsString, IsName, IsNumberBelow}
use Rattle.ir_lex.specs.Lengths.{begins_by, after_byte, run_len, quoted_end_len, decimals_len, length_of, first_token, string_len, name_len, hexadecimal_len, fraction_len}
use Rattle.ir_lex.specs.declared.token.Kind.TheVariants.{Local, Global, CStr, Label, Str, Float, Int, Word, Punct}
use Rattle.ir_lex.proofs.Pieces.{prefix_len-stopped}
use Rattle.ir_lex.proofs.Strings.{string_is, name_is}
use Rattle.ir_lex.proofs.Integers.{IsInteger, integer_is}

-- what may follow any symbol: the end, or a byte that goes on with no name and no label, and begins no string
abbrev pub Separates : List ℕ → Type 0
Separates [] = Unit {0}
Separates (b ∷ bs) = (is_name_byte b ≡ false) × ((b == 58) ≡ false) × ((b == 34) ≡ false)

pub separates-stops : (r : List ℕ) → Separates r → Stops is_name_byte r
separates-stops [] h = tt
separates-stops (b ∷ r) h = h.0

no_colon : (r : List ℕ) → Separates r → begins_by (λ b. b == 58) r ≡ false
no_colon [] h = refl
no_colon (b ∷ r) h = h.1

no_quote : (r : List ℕ) → Separates r → begins_by (λ b. b == 34) r ≡ false
no_quote [] h = refl
no_quote (b ∷ r) h = h.2

-- a test of one byte that another test excludes
other_byte : (p : ℕ → Bool) (x c : ℕ) → p x ≡ true → p c ≡ false → (x == c) ≡ false
other_byte p x c h e = false_from_ne_true (x == c) (λ t. let here : x ≡ c = eqb-true x c t in let wrong : false ≡ true = sym e ∙ ap p (sym here) ∙ h in cc)

-- marks
or_case : (P : ℕ → Type 0) (b c : ℕ) (l : Bool) → (l ≡ true → P b) → P c → (l || (b == c)) ≡ true → P b
or_case P b c true f g h = f refl
or_case P b c false f g h = subst P (sym (eqb-true b c h)) g

punct_case : (P : ℕ → Type 0) → P 61 → P 44 → P 40 → P 41 → P 91 → P 93 → P 123 → P 125 → P 60 → P 62 → P 42 → P 124 → (b : ℕ) → is_punct b ≡ true → P b
unfolding is_punct
punct_case P a c d e f g h i j k l m b =
    or_case P b 124 _ (or_case P b 42 _ (or_case P b 62 _ (or_case P b 60 _ (or_case P b 125 _ (or_case P b 123 _ (or_case P b 93 _ (or_case P b 91 _ (or_case P b 41 _ (or_case P b 40 _ (or_case P b 44 _ (λ t. subst P (sym (eqb-true b 61 t)) a) c) d) e) f) g) h) i) j) k) l) m

pub first-mark : (b : ℕ) (r : List ℕ) → is_punct b ≡ true → first_token (b ∷ r) ≡ Some (Punct, 1)
unfolding length_of is_digit is_name_byte is_word_start is_punct is_sign
first-mark b r = punct_case (λ x. first_token (x ∷ r) ≡ Some (Punct, 1)) refl refl refl refl refl refl refl refl refl refl refl refl b

-- names
pub first-local : (w r : List ℕ) → IsName w → Stops is_name_byte r → first_token (37 ∷ (w ++ r)) ≡ Some (Local, suc (length w))
unfolding length_of
first-local w r h s = rw (name_is w r h s) (ap (λ n. Some (Local, n)) (omega arith))

pub first-global : (w r : List ℕ) → IsName w → Stops is_name_byte r → first_token (64 ∷ (w ++ r)) ≡ Some (Global, suc (length w))
unfolding length_of
first-global w r h s = rw (name_is w r h s) (ap (λ n. Some (Global, n)) (omega arith))

pub first-text : (w r : List ℕ) → IsString w → first_token (99 ∷ (w ++ r)) ≡ Some (CStr, suc (length w))
unfolding length_of
first-text w r h = rw (string_is w r h) (ap (λ n. Some (CStr, n)) (omega arith))

-- the first kind that finds a token
first_label : (text : List ℕ) (n : ℕ) → length_of Local text ≡ None → length_of Global text ≡ None → length_of CStr text ≡ None → length_of Label text ≡ Some n → first_token text ≡ Some (Label, n)
first_label text n a b c d = rw (a, b, c, d) refl

-- no kind before Float finds one
record NameLike (text : List ℕ) : Type 0 where
  local : length_of Local text ≡ None
  global : length_of Global text ≡ None
  constant : length_of CStr text ≡ None
  label : length_of Label text ≡ None
  string : length_of Str text ≡ None

first_int : (text : List ℕ) (n : ℕ) → NameLike text → length_of Float text ≡ None → length_of Int text ≡ Some n → first_token text ≡ Some (Int, n)
first_int text n h f i = rw (h.local, h.global, h.constant, h.label, h.string, f, i) refl

first_word : (text : List ℕ) (n : ℕ) → NameLike text → length_of Float text ≡ None → length_of Int text ≡ None → length_of Word text ≡ Some n → first_token text ≡ Some (Word, n)
first_word text n h f i w = rw (h.local, h.global, h.constant, h.label, h.string, f, i, w) refl

-- a piece after a byte that isn't there
after_none : (c : ℕ) (piece : List ℕ → Option ℕ) (t : List ℕ) → begins_by (λ b. b == c) t ≡ false → after_byte c piece t ≡ None
after_none c piece [] h = refl
after_none c piece (b ∷ t) h = rw h refl

both_none : {A : Type 0} (b : Bool) → ◌≡◌ {A = Option A} (cond b None None) None
both_none true = refl
both_none false = refl

begins_after : (p : ℕ → Bool) (c : ℕ) (v r : List ℕ) → p c ≡ false → Passes p v → begins_by (λ b. b == c) r ≡ false → begins_by (λ b. b == c) (v ++ r) ≡ false
begins_after p c [] r e h s = s
begins_after p c (y ∷ v) r e h s = other_byte p y c h.0 e

-- a string after a byte that no quote follows
string_after : (x : ℕ) (t : List ℕ) → begins_by (λ b. b == 34) t ≡ false → after_byte 99 string_len (x ∷ t) ≡ None
string_after x t h = rw (after_none 34 quoted_end_len t h) (both_none (x == 99))

quote_is_no_name : is_name_byte 34 ≡ false
unfolding is_name_byte
quote_is_no_name = refl

no_local : (x : ℕ) (t : List ℕ) → is_name_byte x ≡ true → length_of Local (x ∷ t) ≡ None
unfolding length_of is_name_byte
no_local x t h = after_none 37 name_len (x ∷ t) (other_byte is_name_byte x 37 h refl)

no_global : (x : ℕ) (t : List ℕ) → is_name_byte x ≡ true → length_of Global (x ∷ t) ≡ None
unfolding length_of is_name_byte
no_global x t h = after_none 64 name_len (x ∷ t) (other_byte is_name_byte x 64 h refl)

no_constant : (x : ℕ) (t : List ℕ) → begins_by (λ b. b == 34) t ≡ false → length_of CStr (x ∷ t) ≡ None
unfolding length_of
no_constant x t h = string_after x t h

no_string : (x : ℕ) (t : List ℕ) → is_name_byte x ≡ true → length_of Str (x ∷ t) ≡ None
unfolding length_of
no_string x t h = after_none 34 quoted_end_len (x ∷ t) (other_byte is_name_byte x 34 h quote_is_no_name)

labelled : (w r : List ℕ) → IsName w → Stops is_name_byte r → (t : Bool) → begins_by (λ b. b == 58) r ≡ t → length_of Label (w ++ r) ≡ cond t (Some (length w + 1)) None
unfolding length_of
labelled w r h s t e = rw (name_is w r h s, drop-append_seam, e) refl

colon_stops : is_name_byte 58 ≡ false
unfolding is_name_byte
colon_stops = refl

pub first-label : (w r : List ℕ) → IsName w → first_token (w ++ (58 ∷ r)) ≡ Some (Label, length w + 1)
unfolding length_of
first-label [] r (inl h) = absurd h
first-label [] r (inr h) = absurd h
first-label (x ∷ v) r (inl h) =
    let t : List ℕ = v ++ (58 ∷ r) in
    first_label (x ∷ t) _ (no_local x t h.0) (no_global x t h.0) (no_constant x t (begins_after is_name_byte 34 v (58 ∷ r) quote_is_no_name h.1 refl)) (labelled (x ∷ v) (58 ∷ r) (inl h) colon_stops true refl)
first-label (x ∷ v) r (inr h) =
    let t : List ℕ = (x ∷ v) ++ (58 ∷ r) in
    let apart : (c : ℕ) → (34 == c) ≡ false → begins_by (λ b. b == c) t ≡ false = λ c e. ap (λ b. b == c) h.0 ∙ e in
    first_label t _ (after_none 37 name_len t (apart 37 refl)) (after_none 64 name_len t (apart 64 refl)) (after_none 99 string_len t (apart 99 refl)) (labelled (x ∷ v) (58 ∷ r) (inr h) colon_stops true refl)

name_like : (x : ℕ) (v r : List ℕ) → IsRun is_name_byte (x ∷ v) → Separates r → NameLike ((x ∷ v) ++ r)
name_like x v r h s = record {
  local = no_local x _ h.0;
  global = no_global x _ h.0;
  constant = no_constant x _ (begins_after is_name_byte 34 v r quote_is_no_name h.1 (no_quote r s));
  label = labelled (x ∷ v) r (inl h) (separates-stops r s) false (no_colon r s);
  string = no_string x _ h.0;
}

-- words
start_is_name : (x : ℕ) → is_word_start x ≡ true → is_name_byte x ≡ true
unfolding is_name_byte is_word_start
start_is_name x h = grind (arith, nat_tests)

start_is_no_digit : (x : ℕ) → is_word_start x ≡ true → is_digit x ≡ false
unfolding is_digit is_word_start
start_is_no_digit x h = grind (arith, nat_tests)

start_is_no_sign : (x : ℕ) → is_word_start x ≡ true → is_sign x ≡ false
unfolding is_sign is_word_start
start_is_no_sign x h = grind (arith, nat_tests)

start_is_no : (x c : ℕ) → is_word_start x ≡ true → is_word_start c ≡ false → (x == c) ≡ false
start_is_no x c h e = other_byte is_word_start x c h e

no_float_word : (x : ℕ) (t : List ℕ) → is_word_start x ≡ true → length_of Float (x ∷ t) ≡ None
unfolding length_of is_word_start
no_float_word x t h = rw (start_is_no x 48 h refl, start_is_no_sign x h, start_is_no_digit x h) refl

no_int_word : (x : ℕ) (t : List ℕ) → is_word_start x ≡ true → length_of Int (x ∷ t) ≡ None
unfolding length_of is_word_start
no_int_word x t h = rw (start_is_no x 45 h refl, start_is_no_digit x h) refl

some_word : (x : ℕ) (v r : List ℕ) → is_word_start x ≡ true → Passes is_name_byte v → Stops is_name_byte r → length_of Word ((x ∷ v) ++ r) ≡ Some (suc (length v))
unfolding length_of
some_word x v r h p s = rw (h, prefix_len-stopped is_name_byte v r p s) (ap Some (omega arith))

pub first-word : (x : ℕ) (v r : List ℕ) → is_word_start x ≡ true → Passes is_name_byte v → Separates r → first_token ((x ∷ v) ++ r) ≡ Some (Word, suc (length v))
first-word x v r h p s =
    first_word _ _ (name_like x v r (start_is_name x h, p) s) (no_float_word x _ h) (no_int_word x _ h) (some_word x v r h p (separates-stops r s))

-- integers
digit_is_name : (x : ℕ) → is_digit x ≡ true → is_name_byte x ≡ true
unfolding is_name_byte is_digit
digit_is_name x h = grind (arith, nat_tests)

digits_are_names : (v : List ℕ) → Passes is_digit v → Passes is_name_byte v
digits_are_names [] h = tt
digits_are_names (x ∷ v) h = (digit_is_name x h.0, digits_are_names v h.1)

digit_is_no_sign : (x : ℕ) → is_digit x ≡ true → is_sign x ≡ false
unfolding is_sign is_digit
digit_is_no_sign x h = grind (arith, nat_tests)

no_name : (b c : ℕ) → is_name_byte b ≡ false → is_name_byte c ≡ true → (b == c) ≡ false
no_name b c h e = false_from_ne_true (b == c) (λ t. let here : b ≡ c = eqb-true b c t in let wrong : false ≡ true = sym h ∙ ap is_name_byte here ∙ e in cc)

begins_no_name : (c : ℕ) (r : List ℕ) → is_name_byte c ≡ true → Separates r → begins_by (λ b. b == c) r ≡ false
begins_no_name c [] e h = refl
begins_no_name c (b ∷ r) e h = no_name b c h.0 e

digit_stops : (r : List ℕ) → Separates r → Stops is_digit r
digit_stops [] h = tt
digit_stops (b ∷ r) h = false_from_ne_true (is_digit b) (λ t. let wrong : false ≡ true = sym h.0 ∙ digit_is_name b t in cc)

no_fraction : (w r : List ℕ) → Passes is_digit w → Separates r → fraction_len (w ++ r) ≡ None
unfolding is_name_byte
no_fraction w r h s =
    let count : prefix_len is_digit (w ++ r) ≡ length w = prefix_len-stopped is_digit w r h (digit_stops r s) in
    rw (count, drop-append_seam, after_none 46 (λ rest. Some (decimals_len rest)) r (begins_no_name 46 r refl s)) (both_none (length w == 0))

no_hexadecimal : (x : ℕ) (v r : List ℕ) → Passes is_digit v → Separates r → hexadecimal_len (x ∷ (v ++ r)) ≡ None
unfolding is_name_byte is_digit
no_hexadecimal x v r h s =
    rw (after_none 120 (run_len is_name_byte) (v ++ r) (begins_after is_digit 120 v r refl h (begins_no_name 120 r refl s))) (both_none (x == 48))

no_float_digits : (x : ℕ) (v r : List ℕ) → Passes is_digit (x ∷ v) → Separates r → length_of Float ((x ∷ v) ++ r) ≡ None
unfolding length_of
no_float_digits x v r h s = rw (no_hexadecimal x v r h.1 s, digit_is_no_sign x h.0, no_fraction (x ∷ v) r h s) refl

no_float_negative : (v r : List ℕ) → Passes is_digit v → Separates r → length_of Float ((45 ∷ v) ++ r) ≡ None
unfolding length_of is_sign
no_float_negative v r h s = rw (no_fraction v r h s) refl

some_int : (w r : List ℕ) → IsInteger w → Separates r → length_of Int (w ++ r) ≡ Some (length w)
unfolding length_of
some_int w r h s = integer_is w r h (separates-stops r s)

minus_is_name : is_name_byte 45 ≡ true
unfolding is_name_byte
minus_is_name = refl

run_passes : (p : ℕ → Bool) (w : List ℕ) → IsRun p w → Passes p w
run_passes p [] h = absurd h
run_passes p (x ∷ w) h = h

pub first-digits : (w r : List ℕ) → IsNumberBelow (2 ^ 127) w → Separates r → first_token (w ++ r) ≡ Some (Int, length w)
first-digits [] r h s = absurd h.0
first-digits (x ∷ v) r h s =
    first_int _ _ (name_like x v r (digits_are_names (x ∷ v) h.0) s) (no_float_digits x v r h.0 s) (some_int (x ∷ v) r (inl h) s)

pub first-negative : (v r : List ℕ) → IsNumberBelow (2 ^ 127 + 1) v → Separates r → first_token ((45 ∷ v) ++ r) ≡ Some (Int, length (45 ∷ v))
first-negative v r h s =
    let digits : Passes is_digit v = run_passes is_digit v h.0 in
    first_int _ _ (name_like 45 v r (minus_is_name, digits_are_names v digits) s) (no_float_negative v r digits s) (some_int (45 ∷ v) r (inr (refl, h)) s)
