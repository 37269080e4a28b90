-- Printed integers are read as they were.
use Rattle.std.proofs.Common.{◌≡◌, ℕ, ℤ, pos, negsuc, neg_ℤ, suc, ◌+◌, ◌^◌, ◌<◌, ◌==◌, true, false, List, [], ◌∷◌, Some, refl, sym, ap, ◌∙◌, arith}
use Rattle.std.specs.Option.{option_map}
use Rattle.std.specs.Fmt.{decimal, signed_decimal}
use Rattle.std.specs.Str.Parse.{digits_value}
use Rattle.std.proofs.lemmas.Bool.{eqb-true, false_from_ne_true}
use Rattle.ir_words.specs.Digits.{is_digit}
use Rattle.ir_lex.specs.Spelling.{IsRun, IsNumberBelow}
use Rattle.ir_lex.specs.Symbols.{integer_value, number_below}
use Rattle.ir_print_symbols.specs.Printed.{IsWithin128}
use Rattle.ir_print_symbols.proofs.WordTexts.{decimal_run, decimal_value, run_is_number, below_is}

number_below_is : (limit : ℕ) (w : List ℕ) (n : ℕ) → IsRun is_digit w → digits_value 10 w ≡ n → n < limit → number_below limit w ≡ Some n
number_below_is limit w n r e h = rw (run_is_number w r, e, below_is n limit h) refl

digit_no_minus : (b : ℕ) → is_digit b ≡ true → (b == 45) ≡ false
unfolding is_digit
digit_no_minus b h = false_from_ne_true (b == 45) (λ t. let here : b ≡ 45 = eqb-true b 45 t in let wrong : false ≡ true = ap is_digit (sym here) ∙ h in cc)

unsigned_is : (w : List ℕ) (n : ℕ) → IsRun is_digit w → digits_value 10 w ≡ n → n < 2 ^ 127 → integer_value w ≡ Some (pos n)
unsigned_is [] n r e h = absurd r
unsigned_is (b ∷ w) n r e h = rw (digit_no_minus b r.0) (ap (option_map pos) (number_below_is (2 ^ 127) (b ∷ w) n r e h))

-- the number of a printed integer
pub integer_back : (z : ℤ) → IsWithin128 z → integer_value (signed_decimal z) ≡ Some z
integer_back (pos n) h = unsigned_is (decimal n) n (decimal_run n (omega arith)) (decimal_value n (omega arith)) h
integer_back (negsuc n) h =
    ap (option_map (λ m. neg_ℤ (pos m))) (number_below_is (2 ^ 127 + 1) (decimal (suc n)) (suc n) (decimal_run (suc n) (omega arith)) (decimal_value (suc n) (omega arith)) (omega arith))

pub decimal_below : (limit n : ℕ) → n < 2 ^ 128 → n < limit → IsNumberBelow limit (decimal n)
decimal_below limit n h l = (decimal_run n h, rw (decimal_value n h) l)
