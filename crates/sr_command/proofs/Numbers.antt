-- What number a word is.
use Rattle.std.proofs.Common.{◌≡◌, ◌<◌, ◌^◌, ◌&&◌, ℕ, List, Bool, true, false, Some, None, refl, ap, ◌∙◌, arith, nat_lt, if◌then◌else◌, Result, Ok, Err}
use Rattle.std.proofs.lemmas.Bool.Decides.{Decides-ltb}
use Rattle.std.proofs.lemmas.Fmt.{decimal_is_IsNumeral, parse-decimal}
use Rattle.std.proofs.lemmas.Slice.Eq.{bytes_eq-Decides}
use Rattle.std.specs.Fmt.{decimal}
use Rattle.std.specs.Str.{bytes_eq}
use Rattle.std.specs.Str.Parse.{ParsesUnsigned, digits_value}
use Rattle.sr_command.specs.Words.{number_of}

-- a number that the word is
pub number_found : (word : List ℕ) (n : ℕ) → n < 2 ^ 32 → bytes_eq word (decimal n) ≡ true → Some n ≡ number_of word
number_found word n small same =
    let value : digits_value 10 word ≡ n = ap (digits_value 10) ((bytes_eq-Decides word (decimal n)).0 same) ∙ (decimal_is_IsNumeral n (omega arith)).1 in
    let below : nat_lt n (2 ^ 32) ≡ true = (Decides-ltb n (2 ^ 32)).1 small in
    rw (value, below, same) refl

none_of : (a b : Bool) (v : ℕ) → (a ≡ true → b ≡ true → ⊥) → None ≡ (if a && b then Some v else None)
none_of true true v h = absurd (h refl refl)
none_of true false v h = refl
none_of false b v h = refl

-- the word is no number
pub number_missing : (word : List ℕ) → ((n : ℕ) → n < 2 ^ 32 → word ≡ decimal n → ⊥) → None ≡ number_of word
number_missing word none =
    let v = digits_value 10 word in
    none_of (nat_lt v (2 ^ 32)) (bytes_eq word (decimal v)) v (λ p q. none v ((Decides-ltb v (2 ^ 32)).0 p) ((bytes_eq-Decides word (decimal v)).0 q))

-- a word that isn't parsed is no number
pub unparsed : {E : Type 0} (word : List ℕ) (r : Result ℕ E) (e : E) → r ≡ Err e → ParsesUnsigned 32 10 word r → None ≡ number_of word
unparsed word r e is parsed = number_missing word (λ n small same. let found = parse-decimal 32 n word r small (omega arith) same parsed in cc (found, is))

-- nor is one that isn't the number it is parsed as
pub miswritten : {E : Type 0} (word : List ℕ) (number : ℕ) (r : Result ℕ E) → r ≡ Ok number → ParsesUnsigned 32 10 word r → bytes_eq word (decimal number) ≡ false → None ≡ number_of word
miswritten {E = E} word number r is parsed differs = number_missing word (λ n small same.
    let found = parse-decimal 32 n word r small (omega arith) same parsed in
    let one : n ≡ number = cc (found, is) in
    let yes = (bytes_eq-Decides word (decimal n)).1 same in
    let no : bytes_eq word (decimal n) ≡ false = rw one differs in
    cc (yes, no))
