-- The bytes of a number spell it.
use Rattle.std.specs.Prelude.{◌≡◌, ℕ, zero, suc, ◌+◌, ◌*◌, ◌/◌, ◌%◌, ◌^◌, ◌<◌, map, Option, Some}
use Rattle.std.specs.Option.{option_map}
use Rattle.std.specs.Int.{byte_at, bytes_low_first}
use Rattle.std.proofs.Common.{arith, ap, ap₂, sym, refl, ◌∙◌, mod-eq_of_lt}
use Rattle.std.proofs.Math.Nat.{div-one, mod-one, div-div-eq-div-mul, pow-suc, one-le-pow}
use lib.Arith.{mod-mul}
use Rattle.ir_model.specs.Values.{Byte}
use Rattle.ir_model.specs.Memory.{number_in}

byte_is : (i n : ℕ) → byte_at i n ≡ n / 256 ^ i % 256
byte_is zero n = ap (λ (m : ℕ). m % 256) (sym (div-one n))
byte_is (suc i) n = refl

-- a byte and those above it
joined : (i k n : ℕ) → byte_at i n + 256 * (n / 256 ^ suc i % 256 ^ k) ≡ n / 256 ^ i % 256 ^ suc k
joined i k n =
    let m : ℕ = n / 256 ^ i in
    let above : n / 256 ^ suc i ≡ m / 256 = ap (λ (d : ℕ). n / d) (pow-suc 256 i) ∙ sym (div-div-eq-div-mul n (256 ^ i) 256) in
    ap₂ (λ (low rest : ℕ). low + 256 * rest) (byte_is i n) (ap (λ (h : ℕ). h % 256 ^ k) above)
    ∙ turned (m % 256) (m / 256 % 256 ^ k)
    ∙ sym (mod-mul m (omega (arith, one-le-pow k 256 (omega arith))) (omega arith))
    ∙ ap (λ (d : ℕ). m % d) (sym (pow-suc 256 k))
  where
    turned : (low rest : ℕ) → low + 256 * rest ≡ rest * 256 + low
    turned low rest = omega arith

number_spelled : (i k n : ℕ) → number_in (map Byte (bytes_low_first i k n)) ≡ Some (n / 256 ^ i % 256 ^ k)
number_spelled i zero n = ap Some (sym (mod-one (n / 256 ^ i)))
number_spelled i (suc k) n =
    ap (λ (o : Option ℕ). option_map (λ rest. byte_at i n + 256 * rest) o) (number_spelled (suc i) k n) ∙ ap Some (joined i k n)

-- the bytes of a number that fits spell it
pub spelled : (k n : ℕ) → n < 256 ^ k → number_in (map Byte (bytes_low_first 0 k n)) ≡ Some n
spelled k n lt = number_spelled 0 k n ∙ ap Some (ap (λ (m : ℕ). m % 256 ^ k) (div-one n) ∙ mod-eq_of_lt lt)
