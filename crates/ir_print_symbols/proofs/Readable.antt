-- The symbols of a text of bytes are readable: names and strings are bytes, and numbers fit 128 bits.
use Rattle.std.proofs.Common.{◌≡◌, ℕ, ℤ, zero, suc, pos, neg_ℤ, ◌+◌, ◌-◌, ◌*◌, ◌<◌, ◌^◌, ◌==◌, ◌&&◌, Bool, true, false, nat_lt, if◌then◌else◌, List, [], ◌∷◌, ◌++◌, take, drop, length, Option, None, Some, refl, sym, subst, arith, ltb-true, lit<}
use Rattle.std.specs.Option.{option_map}
use Rattle.std.specs.Str.Parse.{digits_value}
use Rattle.std.proofs.lemmas.Bool.Decides.{nat_tests}
use Rattle.std.proofs.lemmas.List.{take-append-drop}
use Rattle.ir_words.specs.Digits.{is_number}
use Rattle.ir_lex.specs.Lengths.{begins_by}
use Rattle.ir_lex.specs.Meaning.{spelling, is_hex, hex_value, hex_escape, escape, unescaped_after, unescaped, unquoted}
use Rattle.ir_lex.specs.Symbols.{number_below, integer_value, number_symbol, mark_symbol, symbol_of, symbols_of}
use Rattle.ir_lex.specs.declared.token.Token.{Token}
use Rattle.ir_lex.specs.declared.token.Kind.{Kind}
use Rattle.ir_lex.specs.declared.token.Kind.TheVariants.{Local, Global, CStr, Label, Str, Float, Int, Word, Meta, Hash, Punct}
use Rattle.ir_print_symbols.specs.Printed.{AreBytes, IsWithin128, IsReadable, AreReadable}

bytes_left : (v w : List ℕ) → AreBytes (v ++ w) → AreBytes v
bytes_left [] w h = tt
bytes_left (b ∷ v) w h = (h.0, bytes_left v w h.1)

bytes_right : (v w : List ℕ) → AreBytes (v ++ w) → AreBytes w
bytes_right [] w h = h
bytes_right (b ∷ v) w h = bytes_right v w h.1

bytes_take : (n : ℕ) (w : List ℕ) → AreBytes w → AreBytes (take n w)
bytes_take n w h = bytes_left (take n w) (drop n w) (subst AreBytes (sym (take-append-drop n w)) h)

bytes_drop : (n : ℕ) (w : List ℕ) → AreBytes w → AreBytes (drop n w)
bytes_drop n w h = bytes_right (take n w) (drop n w) (subst AreBytes (sym (take-append-drop n w)) h)

bytes_if : (b : Bool) (v w : List ℕ) → AreBytes v → AreBytes w → AreBytes (if b then v else w)
bytes_if true v w h g = h
bytes_if false v w h g = g

bytes_unquoted : (w : List ℕ) → AreBytes w → AreBytes (unquoted w)
bytes_unquoted w h = bytes_if (begins_by (λ b. b == 34) w) (take (length w - 2) (drop 1 w)) w (bytes_take (length w - 2) (drop 1 w) (bytes_drop 1 w h)) h

bytes_spelling : (text : List ℕ) (t : Token) → AreBytes text → AreBytes (spelling text t)
unfolding spelling
bytes_spelling text t h = bytes_take (t.end - t.start) (drop t.start text) (bytes_drop t.start text h)

-- two hexadecimal digits are a byte
hex_small : (b : ℕ) → is_hex b ≡ true → hex_value b < 16
hex_small b h = grind (arith, nat_tests)

two_digits : (b c : ℕ) → is_hex b ≡ true → is_hex c ≡ true → nat_lt (16 * hex_value b + hex_value c) 256 ≡ true
two_digits b c h g =
    let x = hex_small b h in
    let y = hex_small c g in
    grind (arith, nat_tests)

both : (a b : Bool) → (a && b) ≡ true → (a ≡ true) × (b ≡ true)
both true b h = (refl, h)
both false b h = absurd (cc)

code_byte : (b c : ℕ) (t : Bool) → (is_hex b && is_hex c) ≡ t → nat_lt (if t then 16 * hex_value b + hex_value c else 92) 256 ≡ true
code_byte b c true e = two_digits b c (both _ _ e).0 (both _ _ e).1
code_byte b c false e = refl

choose : (t : Bool) (x y : ℕ × ℕ) → (if t then x else y).0 ≡ (if t then x.0 else y.0)
choose true x y = refl
choose false x y = refl

hex_byte : (b : ℕ) (rest : List ℕ) → nat_lt (hex_escape b rest).0 256 ≡ true
hex_byte b [] = refl
hex_byte b (c ∷ rest) =
    subst (λ z. nat_lt z 256 ≡ true) (sym (choose (is_hex b && is_hex c) (16 * hex_value b + hex_value c, 3) (92, 1))) (code_byte b c (is_hex b && is_hex c) refl)

byte_if : (t : Bool) (x y : ℕ × ℕ) → nat_lt x.0 256 ≡ true → nat_lt y.0 256 ≡ true → nat_lt (if t then x else y).0 256 ≡ true
byte_if true x y h g = h
byte_if false x y h g = g

escape_byte : (a : ℕ) (rest : List ℕ) → nat_lt a 256 ≡ true → nat_lt (escape (a ∷ rest)).0 256 ≡ true
unfolding escape
escape_byte a [] h = h
escape_byte a (b ∷ rest) h =
    byte_if (a == 92) (if b == 92 then (92, 2) else hex_escape b rest) (a, 1) (byte_if (b == 92) (92, 2) (hex_escape b rest) refl (hex_byte b rest)) h

bytes_after : (skip : ℕ) (w : List ℕ) → AreBytes w → AreBytes (unescaped_after skip w)
unfolding unescaped_after
bytes_after skip [] h = tt
bytes_after zero (b ∷ bs) h = (escape_byte b bs h.0, bytes_after ((escape (b ∷ bs)).1 - 1) bs h.1)
bytes_after (suc skip) (b ∷ bs) h = bytes_after skip bs h.1

-- numbers

below_is : (limit : ℕ) (w : List ℕ) (t : Bool) → (is_number w && nat_lt (digits_value 10 w) limit) ≡ t → (n : ℕ) → (if t then Some (digits_value 10 w) else None) ≡ Some n → n < limit
below_is limit w true e n h =
    let same : digits_value 10 w ≡ n = cc in
    subst (λ z. z < limit) same (ltb-true (digits_value 10 w) limit (both _ _ e).1)
below_is limit w false e n h = cc

neg_within : (n : ℕ) → n < 2 ^ 127 + 1 → IsWithin128 (neg_ℤ (pos n))
neg_within zero h = lit< tt
neg_within (suc n) h = omega arith

neg_symbol : (o : Option ℕ) → ((n : ℕ) → o ≡ Some n → n < 2 ^ 127 + 1) → IsReadable (number_symbol (option_map (λ n. neg_ℤ (pos n)) o))
neg_symbol None h = tt
neg_symbol (Some n) h = neg_within n (h n refl)

pos_symbol : (o : Option ℕ) → ((n : ℕ) → o ≡ Some n → n < 2 ^ 127) → IsReadable (number_symbol (option_map pos o))
pos_symbol None h = tt
pos_symbol (Some n) h = h n refl

number_if : (t : Bool) (a b : Option ℤ) → IsReadable (number_symbol a) → IsReadable (number_symbol b) → IsReadable (number_symbol (if t then a else b))
number_if true a b h g = h
number_if false a b h g = g

number_readable : (w : List ℕ) → IsReadable (number_symbol (integer_value w))
number_readable [] = tt
number_readable (b ∷ bs) =
    number_if (b == 45) (option_map (λ n. neg_ℤ (pos n)) (number_below (2 ^ 127 + 1) bs)) (option_map pos (number_below (2 ^ 127) (b ∷ bs)))
    (neg_symbol (number_below (2 ^ 127 + 1) bs) (below_is (2 ^ 127 + 1) bs (is_number bs && nat_lt (digits_value 10 bs) (2 ^ 127 + 1)) refl))
    (pos_symbol (number_below (2 ^ 127) (b ∷ bs)) (below_is (2 ^ 127) (b ∷ bs) (is_number (b ∷ bs) && nat_lt (digits_value 10 (b ∷ bs)) (2 ^ 127)) refl))

mark_readable : (w : List ℕ) → IsReadable (mark_symbol w)
mark_readable [] = tt
mark_readable (b ∷ w) = tt

-- the symbol of a token, by its kind
token_of : Kind → Token → Token
token_of k t = record { kind = k; start = t.start; end = t.end; first = t.first }

name_bytes : (w : List ℕ) → AreBytes w → AreBytes (unescaped (unquoted (drop 1 w)))
name_bytes w h = bytes_after 0 (unquoted (drop 1 w)) (bytes_unquoted (drop 1 w) (bytes_drop 1 w h))

label_bytes : (w : List ℕ) → AreBytes w → AreBytes (unescaped (unquoted (take (length w - 1) w)))
label_bytes w h = bytes_after 0 (unquoted (take (length w - 1) w)) (bytes_unquoted (take (length w - 1) w) (bytes_take (length w - 1) w h))

token_readable : (text : List ℕ) (t : Token) (k : Kind) → AreBytes text → IsReadable (symbol_of text (token_of k t))
unfolding token_of
token_readable text t Word h = tt
token_readable text t Local h = name_bytes (spelling text (token_of Local t)) (bytes_spelling text (token_of Local t) h)
token_readable text t Global h = name_bytes (spelling text (token_of Global t)) (bytes_spelling text (token_of Global t) h)
token_readable text t Label h = label_bytes (spelling text (token_of Label t)) (bytes_spelling text (token_of Label t) h)
token_readable text t Int h = number_readable (spelling text (token_of Int t))
token_readable text t CStr h = name_bytes (spelling text (token_of CStr t)) (bytes_spelling text (token_of CStr t) h)
token_readable text t Punct h = mark_readable (spelling text (token_of Punct t))
token_readable text t Str h = tt
token_readable text t Float h = tt
token_readable text t Meta h = tt
token_readable text t Hash h = tt

-- whatever tokens are taken of a text of bytes, what they mean is readable
pub symbols_are_readable : (text : List ℕ) (toks : List Token) → AreBytes text → AreReadable (symbols_of text toks)
unfolding token_of
symbols_are_readable text [] h = tt
symbols_are_readable text (t ∷ toks) h = (token_readable text t t.kind h, symbols_are_readable text toks h)
