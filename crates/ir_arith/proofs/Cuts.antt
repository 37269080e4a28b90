-- Powers of two, and numbers that are cut off to so many bits.
use Rattle.std.proofs.Common.{◌≡◌, ◌≤◌, ◌<◌, ℕ, zero, suc, ◌+◌, ◌-◌, ◌*◌, ◌/◌, ◌%◌, ◌^◌, arith, ap, sym, ◌∙◌}
use Rattle.std.proofs.lemmas.Nat.{pow_pos, pow-add, shr_high}
use Rattle.std.proofs.Math.Nat.{add-mul-mod_self_right}
use Rattle.std.proofs.Math.Pow.{mod-mod-pow}
use native.Mathlib.Numerals.{unary_clauses}

-- a word has as many values as there are low bits times high bits
pub word_parts : (w : ℕ) → w ≤ 64 → 2 ^ (64 - w) * 2 ^ w ≡ 2 ^ 64
word_parts w most = sym (pow-add 2 (64 - w) w) ∙ ap (λ (m : ℕ). 2 ^ m) (let e : 64 - w + w ≡ 64 = omega arith in e)

-- all bits but the low ones of a product
ones_high : (x y : ℕ) → 0 < x → 0 < y → (x - 1) * y + (y - 1) ≡ y * x - 1
ones_high zero y some more = absurd (omega arith)
ones_high (suc x) zero some more = absurd (omega arith)
ones_high (suc x) (suc y) some more = simp unary_clauses (omega arith)

-- a word of ones, shifted so that so many are left
pub mask_is : (w : ℕ) → w ≤ 64 → 18446744073709551615 / 2 ^ (64 - w) ≡ 2 ^ w - 1
mask_is w most =
    let y : ℕ = 2 ^ (64 - w) in
    let some : 0 < y = pow_pos (64 - w) in
    let whole : (2 ^ w - 1) * y + (y - 1) ≡ 18446744073709551615 =
    ones_high (2 ^ w) y (pow_pos w) some ∙ ap (λ (m : ℕ). m - 1) (word_parts w most) in
    ap (λ (m : ℕ). m / y) (sym whole) ∙ shr_high (2 ^ w - 1) (64 - w) (y - 1) (omega arith)

-- what is cut off twice
pub cut_twice : (w n : ℕ) → w ≤ 64 → n % 2 ^ 64 % 2 ^ w ≡ n % 2 ^ w
cut_twice w n most =
    ap (λ (m : ℕ). n % 2 ^ m % 2 ^ w) (let e : 64 ≡ 64 - w + w = omega arith in e) ∙ mod-mod-pow n (64 - w) w

-- a difference of words, cut off
pub cut_difference : (w a b : ℕ) → w ≤ 64 → b < 2 ^ w → (a + (2 ^ 64 - b)) % 2 ^ 64 % 2 ^ w ≡ (a + (2 ^ w - b)) % 2 ^ w
cut_difference w a b most below =
    let k : ℕ = 2 ^ (64 - w) in
    let whole : k * 2 ^ w ≡ 2 ^ 64 = word_parts w most in
    let some : 0 < k = pow_pos (64 - w) in
    cut_twice w (a + (2 ^ 64 - b)) most
    ∙ ap (λ (n : ℕ). n % 2 ^ w) (parts a b (2 ^ w) k some below whole)
    ∙ add-mul-mod_self_right (a + (2 ^ w - b)) (k - 1) (2 ^ w)
  where
    one_less : (m k : ℕ) → 0 < k → k * m ≡ m + (k - 1) * m
    one_less m zero some = absurd (omega arith)
    one_less m (suc k) some = simp unary_clauses (omega arith)

    parts : (a b m k : ℕ) → 0 < k → b < m → k * m ≡ 2 ^ 64 → a + (2 ^ 64 - b) ≡ a + (m - b) + (k - 1) * m
    parts a b m k some below whole = let less = one_less m k some in omega (arith, less, whole)
