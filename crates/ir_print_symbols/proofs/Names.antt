-- What the tokens of printed symbols mean.
use Rattle.std.proofs.Common.{◌≡◌, inl, inr, ℕ, ◌+◌, ◌-◌, ◌*◌, ◌/◌, ◌%◌, ◌<◌, ◌==◌, ◌&&◌, not, nat_lt, Bool, true, false, cond, List, [], ◌∷◌, ◌++◌, length, take, refl, sym, ap, ◌∙◌, arith}
use Rattle.std.specs.List.{list_all}
use Rattle.std.specs.Fmt.{digit_glyph}
use Rattle.std.proofs.lemmas.Bool.{eqb-true, false_from_ne_true}
use Rattle.std.proofs.lemmas.Bool.Decides.{nat_tests}
use Rattle.std.proofs.lemmas.List.{length-append}
use Rattle.std.proofs.Math.Seq.{take-append_seam}
use Rattle.ir_words.specs.Digits.{Passes}
use Rattle.ir_lex.specs.Bytes.{is_name_byte, is_not_quote}
use Rattle.ir_lex.specs.Spelling.{IsRun, IsName, IsString}
use Rattle.ir_lex.specs.Meaning.{escape, unescaped, unescaped_after, unquoted, is_hex, hex_value}
use Rattle.ir_print_symbols.specs.Printed.{stands_for_itself, escaped_byte, escaped, quoted, is_plain_name, printed_name, AreBytes}

pub and_true : (a b : Bool) → (a && b) ≡ true → (a ≡ true) × (b ≡ true)
and_true true b h = (refl, h)
and_true false b h = absurd (cc)

-- bytes in quotes

escape_plain : (b : ℕ) (bs : List ℕ) → (b == 92) ≡ false → ◌≡◌ {A = ℕ × ℕ} (escape (b ∷ bs)) (b, 1)
unfolding escape
escape_plain b [] h = refl
escape_plain b (c ∷ bs) h = rw h refl

unescaped_plain : (b : ℕ) (bs : List ℕ) → (b == 92) ≡ false → unescaped (b ∷ bs) ≡ b ∷ unescaped bs
unfolding unescaped_after
unescaped_plain b bs h = rw (escape_plain b bs h) refl

escape_code : (h l : ℕ) (bs : List ℕ) → (h == 92) ≡ false → is_hex h ≡ true → is_hex l ≡ true → ◌≡◌ {A = ℕ × ℕ} (escape (92 ∷ h ∷ l ∷ bs)) (16 * hex_value h + hex_value l, 3)
unfolding escape
escape_code h l bs a b c = rw (a, b, c) refl

unescaped_code : (h l : ℕ) (bs : List ℕ) → (h == 92) ≡ false → is_hex h ≡ true → is_hex l ≡ true → unescaped (92 ∷ h ∷ l ∷ bs) ≡ (16 * hex_value h + hex_value l) ∷ unescaped bs
unfolding unescaped_after
unescaped_code h l bs a b c = rw (escape_code h l bs a b c) refl

glyph_hex : (d : ℕ) → d < 16 → is_hex (digit_glyph true d) ≡ true
glyph_hex d h = by_test (nat_lt d 10) refl
  where
    by_test : (t : Bool) → nat_lt d 10 ≡ t → is_hex (cond t (48 + d) (55 + d)) ≡ true
    by_test true e = grind (arith, nat_tests)
    by_test false e = grind (arith, nat_tests)

glyph_value : (d : ℕ) → d < 16 → hex_value (digit_glyph true d) ≡ d
glyph_value d h = by_test (nat_lt d 10) refl
  where
    by_test : (t : Bool) → nat_lt d 10 ≡ t → hex_value (cond t (48 + d) (55 + d)) ≡ d
    by_test true e = grind (arith, nat_tests)
    by_test false e = grind (arith, nat_tests)

glyph_no_slash : (d : ℕ) → d < 16 → (digit_glyph true d == 92) ≡ false
glyph_no_slash d h = by_test (nat_lt d 10) refl
  where
    by_test : (t : Bool) → nat_lt d 10 ≡ t → (cond t (48 + d) (55 + d) == 92) ≡ false
    by_test true e = grind (arith, nat_tests)
    by_test false e = grind (arith, nat_tests)

glyph_no_quote : (d : ℕ) → is_not_quote (digit_glyph true d) ≡ true
unfolding is_not_quote
glyph_no_quote d = by_test (nat_lt d 10)
  where
    by_test : (t : Bool) → not (cond t (48 + d) (55 + d) == 34) ≡ true
    by_test true = grind (arith, nat_tests)
    by_test false = grind (arith, nat_tests)

itself_no_slash : (b : ℕ) → stands_for_itself b ≡ true → (b == 92) ≡ false
unfolding stands_for_itself
itself_no_slash b h = grind (arith, nat_tests)

itself_no_quote : (b : ℕ) → stands_for_itself b ≡ true → is_not_quote b ≡ true
unfolding stands_for_itself is_not_quote
itself_no_quote b h = grind (arith, nat_tests)

byte_below : (b : ℕ) → nat_lt b 256 ≡ true → b < 256
byte_below b h = grind (arith, nat_tests)

-- a byte's two digits spell it
byte_back : (b : ℕ) (bs : List ℕ) → b < 256 → (t : Bool) → stands_for_itself b ≡ t → unescaped (cond t (b ∷ []) (92 ∷ digit_glyph true (b / 16) ∷ digit_glyph true (b % 16) ∷ []) ++ bs) ≡ b ∷ unescaped bs
byte_back b bs h true e = unescaped_plain b bs (itself_no_slash b e)
byte_back b bs h false e =
    let high : b / 16 < 16 = omega arith in
    let low : b % 16 < 16 = omega arith in
    let sum : 16 * hex_value (digit_glyph true (b / 16)) + hex_value (digit_glyph true (b % 16)) ≡ b = rw (glyph_value (b / 16) high, glyph_value (b % 16) low) (omega arith) in
    unescaped_code (digit_glyph true (b / 16)) (digit_glyph true (b % 16)) bs (glyph_no_slash (b / 16) high) (glyph_hex (b / 16) high) (glyph_hex (b % 16) low) ∙ ap (λ x. x ∷ unescaped bs) sum

nothing_left : unescaped [] ≡ []
unfolding unescaped_after
nothing_left = refl

-- bytes in quotes spell themselves
pub escaped_back : (bs : List ℕ) → AreBytes bs → unescaped (escaped bs) ≡ bs
escaped_back [] h = nothing_left
escaped_back (b ∷ bs) h = byte_back b (escaped bs) (byte_below b h.0) _ refl ∙ ap (λ t. b ∷ t) (escaped_back bs h.1)

Passes-append : (p : ℕ → Bool) (v w : List ℕ) → Passes p v → Passes p w → Passes p (v ++ w)
Passes-append p [] w h g = g
Passes-append p (b ∷ v) w h g = (h.0, Passes-append p v w h.1 g)

byte_no_quotes : (b : ℕ) (t : Bool) → stands_for_itself b ≡ t → Passes is_not_quote (cond t (b ∷ []) (92 ∷ digit_glyph true (b / 16) ∷ digit_glyph true (b % 16) ∷ []))
unfolding is_not_quote
byte_no_quotes b true e = (itself_no_quote b e, tt)
byte_no_quotes b false e = (refl, (glyph_no_quote (b / 16), (glyph_no_quote (b % 16), tt)))

escaped_no_quotes : (bs : List ℕ) → Passes is_not_quote (escaped bs)
escaped_no_quotes [] = tt
escaped_no_quotes (b ∷ bs) = Passes-append is_not_quote (escaped_byte b) (escaped bs) (byte_no_quotes b _ refl) (escaped_no_quotes bs)

pub quoted_is_string : (bs : List ℕ) → IsString (quoted bs)
quoted_is_string bs = (refl, (escaped bs, refl, escaped_no_quotes bs))

unquoted_quoted : (bs : List ℕ) → unquoted (quoted bs) ≡ escaped bs
unquoted_quoted bs =
    let count : length (quoted bs) - 2 ≡ length (escaped bs) = simp length-append (omega arith) in
    ap (λ n. take n (escaped bs ++ 34 ∷ [])) count ∙ take-append_seam (escaped bs) (34 ∷ [])

pub quoted_back : (bs : List ℕ) → AreBytes bs → unescaped (unquoted (quoted bs)) ≡ bs
quoted_back bs h = ap unescaped (unquoted_quoted bs) ∙ escaped_back bs h

-- names

pub all_pass : (p : ℕ → Bool) (v : List ℕ) → list_all p v ≡ true → Passes p v
all_pass p [] h = tt
all_pass p (b ∷ v) h = let both = and_true (p b) (list_all p v) h in (both.0, all_pass p v both.1)

plain_is_run : (name : List ℕ) → is_plain_name name ≡ true → IsRun is_name_byte name
plain_is_run [] h = absurd (cc)
plain_is_run (b ∷ bs) h = let both = and_true (is_name_byte b) (list_all is_name_byte bs) h in (both.0, all_pass is_name_byte bs both.1)

name_no : (b c : ℕ) → is_name_byte b ≡ true → is_name_byte c ≡ false → (b == c) ≡ false
name_no b c h e = false_from_ne_true (b == c) (λ t. let here : b ≡ c = eqb-true b c t in let wrong : false ≡ true = sym e ∙ ap is_name_byte (sym here) ∙ h in cc)

name_no_slash : (b : ℕ) → is_name_byte b ≡ true → (b == 92) ≡ false
unfolding is_name_byte
name_no_slash b h = name_no b 92 h refl

name_no_quote : (b : ℕ) → is_name_byte b ≡ true → (b == 34) ≡ false
unfolding is_name_byte
name_no_quote b h = name_no b 34 h refl

plain_back : (v : List ℕ) → Passes is_name_byte v → unescaped v ≡ v
plain_back [] h = nothing_left
plain_back (b ∷ v) h = unescaped_plain b v (name_no_slash b h.0) ∙ ap (λ t. b ∷ t) (plain_back v h.1)

run_back : (v : List ℕ) → IsRun is_name_byte v → unescaped (unquoted v) ≡ v
run_back [] h = absurd h
run_back (b ∷ v) h = rw (name_no_quote b h.0) (plain_back (b ∷ v) h)

-- a printed name is a name, and spells it
pub printed_is_name : (name : List ℕ) → IsName (printed_name name)
printed_is_name name = by_test (is_plain_name name) refl
  where
    by_test : (t : Bool) → is_plain_name name ≡ t → IsName (cond t name (quoted name))
    by_test true e = inl (plain_is_run name e)
    by_test false e = inr (quoted_is_string name)

pub name_back : (name : List ℕ) → AreBytes name → unescaped (unquoted (printed_name name)) ≡ name
name_back name h = by_test (is_plain_name name) refl
  where
    by_test : (t : Bool) → is_plain_name name ≡ t → unescaped (unquoted (cond t name (quoted name))) ≡ name
    by_test true e = run_back name (plain_is_run name e)
    by_test false e = quoted_back name h

pub label_back : (name : List ℕ) → AreBytes name → unescaped (unquoted (take (length (printed_name name ++ 58 ∷ []) - 1) (printed_name name ++ 58 ∷ []))) ≡ name
label_back name h =
    let count : length (printed_name name ++ 58 ∷ []) - 1 ≡ length (printed_name name) = simp length-append (omega arith) in
    ap (λ n. unescaped (unquoted (take n (printed_name name ++ 58 ∷ [])))) count ∙ ap (λ w. unescaped (unquoted w)) (take-append_seam (printed_name name) (58 ∷ [])) ∙ name_back name h
