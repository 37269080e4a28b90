-- Signed numbers: their bits, and the numbers that bits mean.
use Rattle.std.proofs.Common.{◌≡◌, ◌≤◌, ◌<◌, ℕ, suc, ◌+◌, ◌-◌, ◌*◌, ◌/◌, ◌%◌, ◌^◌, ℤ, pos, negsuc, ◌-ℤ◌, ◌+ℤ◌, ◌*ℤ◌, FitsSigned, w64, to_z, of_z, if◌then◌else◌, Bool, arith, refl, ap, ap₂, sym, ◌∙◌, subst, zero}
use Rattle.std.specs.Int.{w128, int_wrapping_div}
use Rattle.std.specs.Prelude.{unsigned_abs, int_div, neg_ℤ}
use Rattle.std.proofs.lemmas.Int.{to_z-of_z, to_z_pos, int_rem_euclid_is, of_z-to_z, fits_signed_mul, ints}
use Rattle.std.proofs.lemmas.Bool.{le-ltb, lt-ltb}
use Rattle.std.proofs.lemmas.Nat.{pow_pos, one_shl}
use Rattle.std.proofs.Math.Nat.{div-le_self, pow-suc, pow-le-pow_right}
use Rattle.ir_model.specs.Integers.{signed, bits_of}
use Rattle.ir_arith.proofs.Cuts.{word_parts}

-- a power is twice the one before it
pub twice : (w : ℕ) → 1 ≤ w → 2 ^ w ≡ 2 * 2 ^ (w - 1)
twice w some = ap (λ (m : ℕ). 2 ^ m) (let e : w ≡ suc (w - 1) = omega arith in e) ∙ pow-suc 2 (w - 1) ∙ omega arith

-- how large powers are
pub half_most : (w : ℕ) → w ≤ 64 → 2 ^ (w - 1) ≤ 2 ^ 63
half_most w most = pow-le-pow_right {n = 2} (omega arith) {i = w - 1} {j = 63} (omega arith)

pub low_signed : (w n : ℕ) → n < 2 ^ (w - 1) → signed w n ≡ pos n
low_signed w n low = ap (λ (b : Bool). if b then pos n else pos n -ℤ pos (2 ^ w)) (lt-ltb n (2 ^ (w - 1)) low)

pub high_signed : (w n : ℕ) → 2 ^ (w - 1) ≤ n → signed w n ≡ pos n -ℤ pos (2 ^ w)
high_signed w n high = ap (λ (b : Bool). if b then pos n else pos n -ℤ pos (2 ^ w)) (le-ltb n (2 ^ (w - 1)) high)

-- the bits of a number that a word holds
pub bits_are : (w : ℕ) (z : ℤ) → w ≤ 64 → FitsSigned w64 z → bits_of w z ≡ of_z w64 z % 2 ^ w
bits_are w (pos a) most fits = refl
bits_are w (negsuc a) most fits =
    let lt : a < 2 ^ 63 = fits.sfits in
    let whole : 2 ^ (64 - w) * 2 ^ w ≡ 2 ^ 64 = word_parts w most in
    let moved : negsuc a +ℤ pos (2 ^ (64 - w) * 2 ^ w) ≡ pos (2 ^ 64 - suc a) =
    ap (λ (m : ℕ). negsuc a +ℤ pos m) whole ∙ omega (arith, ints) in
    ap unsigned_abs (int_rem_euclid_is (negsuc a) (pos (2 ^ w)) (2 ^ w) (2 ^ (64 - w)) (2 ^ 64 - suc a) (pow_pos w) refl moved)

-- the number that bits mean, as a difference of words
pub signed_word : (w n : ℕ) → 1 ≤ w → w ≤ 64 → n < 2 ^ w → 2 ^ (w - 1) ≤ n
    → to_z w64 (of_z w64 (to_z w128 (of_z w128 (to_z w128 n -ℤ to_z w128 (1 * 2 ^ w % 2 ^ 128))))) ≡ signed w n
signed_word w n some most below high =
    let whole = twice w some in
    let half = half_most w most in
    let power : 1 * 2 ^ w % 2 ^ 128 ≡ 2 ^ w = one_shl w 128 (omega arith) in
    let left : to_z w128 n ≡ pos n = to_z_pos w128 n (omega (arith, whole, half)) in
    let right : to_z w128 (1 * 2 ^ w % 2 ^ 128) ≡ pos (2 ^ w) =
    ap (to_z w128) power ∙ to_z_pos w128 (2 ^ w) (omega (arith, whole, half)) in
    let narrow : FitsSigned w64 (pos n -ℤ pos (2 ^ w)) = fits_below n (2 ^ w) (omega arith) (omega (arith, whole, half, high)) in
    let wide : FitsSigned w128 (pos n -ℤ pos (2 ^ w)) = record { sfits = omega (arith, narrow.sfits) } in
    ap₂ (λ (a b : ℤ). to_z w64 (of_z w64 (to_z w128 (of_z w128 (a -ℤ b))))) left right
    ∙ ap (λ (z : ℤ). to_z w64 (of_z w64 z)) (to_z-of_z w128 _ wide) ∙ to_z-of_z w64 _ narrow ∙ sym (high_signed w n high)
  where
    fits_below : (n m : ℕ) → n < m → m ≤ n + 2 ^ 63 → FitsSigned w64 (pos n -ℤ pos m)
    fits_below n zero lt far = absurd (omega arith)
    fits_below n (suc m) lt far =
        let is : pos n -ℤ pos (suc m) ≡ negsuc (m - n) = omega (arith, ints) in
        subst (FitsSigned w64) (sym is) (record { sfits = omega arith })

-- numbers that a word holds, and those that two words hold
pub wide : (z : ℤ) → FitsSigned w64 z → FitsSigned w128 z
wide z fits = record { sfits = omega (arith, fits.sfits) }

-- an operation on two numbers, when they and the result have room
pub with_room : (op : ℤ → ℤ → ℤ) (x y : ℤ) → FitsSigned w64 x → FitsSigned w64 y → FitsSigned w128 (op x y)
    → to_z w128 (of_z w128 (op (to_z w128 (of_z w128 x)) (to_z w128 (of_z w128 y)))) ≡ op x y
with_room op x y left right fits =
    ap₂ (λ (a b : ℤ). to_z w128 (of_z w128 (op a b))) (to_z-of_z w128 x (wide x left)) (to_z-of_z w128 y (wide y right))
    ∙ to_z-of_z w128 (op x y) fits

pub sum_fits : (x y : ℤ) → FitsSigned w64 x → FitsSigned w64 y → FitsSigned w128 (x +ℤ y)
sum_fits x y left right = omega (arith, ints)

pub difference_fits : (x y : ℤ) → FitsSigned w64 x → FitsSigned w64 y → FitsSigned w128 (x -ℤ y)
difference_fits x y left right = omega (arith, ints)

at_most : (z : ℤ) → FitsSigned w64 z → unsigned_abs z ≤ 2 ^ 63
at_most (pos n) fits = let lt : n < 2 ^ 63 = fits.sfits in omega arith
at_most (negsuc n) fits = let lt : n < 2 ^ 63 = fits.sfits in omega arith

pub product_fits : (x y : ℤ) → FitsSigned w64 x → FitsSigned w64 y → FitsSigned w128 (x *ℤ y)
product_fits x y left right = fits_signed_mul w128 x y (2 ^ 63) (2 ^ 63) (at_most x left) (at_most y right) (omega arith)

-- a number whose bits in a word are those of its width
record IsNear (w : ℕ) (z : ℤ) : Type 0 where
  below : of_z w64 z < 2 ^ 64
  bits : bits_of w z ≡ of_z w64 z % 2 ^ w

near_above : (w n : ℕ) → n ≤ 2 ^ 63 → IsNear w (pos n)
near_above w n most = record { below = omega arith; bits = refl }

near_below : (w n : ℕ) → w ≤ 64 → n ≤ 2 ^ 63 → IsNear w (neg_ℤ (pos n))
near_below w zero most small = near_above w 0 small
near_below w (suc n) most small = record { below = omega arith; bits = bits_are w (negsuc n) most (record { sfits = omega arith }) }

near_quotient : (w : ℕ) (x y : ℤ) → w ≤ 64 → FitsSigned w64 x → IsNear w (int_div x y)
near_quotient w (pos a) (pos b) most fits = near_above w (a / b) (let le = div-le_self a b in let lt : a < 2 ^ 63 = fits.sfits in omega arith)
near_quotient w (pos a) (negsuc b) most fits =
    near_below w (a / suc b) most (let le = div-le_self a (suc b) in let lt : a < 2 ^ 63 = fits.sfits in omega arith)
near_quotient w (negsuc a) (pos b) most fits =
    near_below w (suc a / b) most (let le = div-le_self (suc a) b in let lt : a < 2 ^ 63 = fits.sfits in omega arith)
near_quotient w (negsuc a) (negsuc b) most fits =
    near_above w (suc a / suc b) (let le = div-le_self (suc a) (suc b) in let lt : a < 2 ^ 63 = fits.sfits in omega arith)

-- the bits of a quotient that is taken in a word
pub quotient_bits : (w : ℕ) (x y r : ℤ) → w ≤ 64 → FitsSigned w64 x → FitsSigned w64 r → r ≡ int_wrapping_div w64 x y
    → bits_of w r ≡ bits_of w (int_div x y)
quotient_bits w x y r most fits room is =
    let near = near_quotient w x y most fits in
    bits_are w r most room
    ∙ ap (λ (z : ℤ). of_z w64 z % 2 ^ w) is
    ∙ ap (λ (n : ℕ). n % 2 ^ w) (of_z-to_z w64 (of_z w64 (int_div x y)) near.below)
    ∙ sym near.bits

pub shift_fits : (x : ℤ) (n : ℕ) → FitsSigned w64 x → n ≤ 2 ^ 63 → FitsSigned w128 (x *ℤ pos n)
shift_fits x n fits small = fits_signed_mul w128 x (pos n) (2 ^ 63) (2 ^ 63) (at_most x fits) small (omega arith)
