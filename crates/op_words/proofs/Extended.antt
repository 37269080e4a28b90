-- Numbers of a width as words: extended by their sign.
use Rattle.std.proofs.Common.{◌≡◌, ◌≢◌, ◌≤◌, ◌<◌, ℕ, zero, suc, ◌+◌, ◌-◌, ◌*◌, ◌/◌, ◌%◌, ◌^◌, ◌==◌, ℤ, pos, negsuc, ◌-ℤ◌, ◌+ℤ◌, Bool, true, false, if◌then◌else◌, nat_lt, inl, inr, w64, to_z, of_z, FitsSigned, arith, refl, ap, ap₂, sym, ◌∙◌, subst}
use Rattle.std.specs.Prelude.{unsigned_abs, ◌⊎◌}
use Rattle.std.specs.Int.{int_shr, int_rem_euclid}
use Rattle.std.proofs.lemmas.Int.{int_rem_euclid_is, ints}
use Rattle.std.proofs.lemmas.Bool.{le-ltb, lt-ltb, cases_lt}
use Rattle.std.proofs.lemmas.Nat.{mod_low, shl-shr, div-mul-add, mul-le}
use Rattle.std.proofs.Math.Nat.{mod-lt, mod-le, mod-eq_of_lt}
use Rattle.ir_model.specs.Integers.{signed, bits_of}
use Rattle.ir_model.specs.Pointers.{extended}
use Rattle.rv_model.specs.Operations.{bits64, signed64, sign_extended, shifted_left, shifted_signed}
use Rattle.op_words.proofs.Powers.{Width, width}

-- a number is below another one, or not
pub below_or : (a b : ℕ) → (a < b) ⊎ (b ≤ a)
below_or a b = cases_lt a b

-- the signed number of bits, below half and from half on
pub low_signed : (w n : ℕ) → n < 2 ^ (w - 1) → signed w n ≡ pos n
low_signed w n low = ap (λ (b : Bool). if b then pos n else pos n -ℤ pos (2 ^ w)) (lt-ltb n (2 ^ (w - 1)) low)

pub high_signed : (w n : ℕ) → n < 2 ^ w → 2 ^ (w - 1) ≤ n → signed w n ≡ negsuc (2 ^ w - suc n)
high_signed w n lt high =
    ap (λ (b : Bool). if b then pos n else pos n -ℤ pos (2 ^ w)) (le-ltb n (2 ^ (w - 1)) high) ∙ omega (arith, ints)

-- the word of a number
pub low_word : (w n : ℕ) → Width w → n < 2 ^ (w - 1) → extended w n ≡ n
low_word w n is low =
    ap (bits_of 64) (low_signed w n low) ∙ mod-eq_of_lt (let e : n < 2 ^ 64 = omega (arith, is.half) in e)

pub high_word : (w n : ℕ) → Width w → n < 2 ^ w → 2 ^ (w - 1) ≤ n → extended w n ≡ n + (2 ^ 64 - 2 ^ w)
high_word w n is lt high =
    let within : 2 ^ w ≤ 2 ^ 64 = omega (arith, is.whole, is.half) in
    ap (bits_of 64) (high_signed w n lt high) ∙ omega arith

-- it is a word
pub word_below : (w n : ℕ) → Width w → n < 2 ^ w → extended w n < 2 ^ 64
word_below w n is lt = elim (below_or n (2 ^ (w - 1))) [
  | inl low ↦ omega (arith, low_word w n is low, is.half)
  | inr high ↦ omega (arith, high_word w n is lt high, is.whole, is.half)
]

-- the machine's words of a width's numbers, as those of the instructions that end in W
pub as_machine : (w n : ℕ) → Width w → n < 2 ^ w → sign_extended (2 ^ (w - 1)) n ≡ extended w n
as_machine w n is lt = elim (below_or n (2 ^ (w - 1))) [
  | inl low ↦
      ap (λ (b : Bool). if b then n else n + 2 ^ 64 - 2 * 2 ^ (w - 1)) (lt-ltb n (2 ^ (w - 1)) low) ∙ sym (low_word w n is low)
  | inr high ↦
      ap (λ (b : Bool). if b then n else n + 2 ^ 64 - 2 * 2 ^ (w - 1)) (le-ltb n (2 ^ (w - 1)) high)
      ∙ omega (arith, high_word w n is lt high, is.whole, is.half)
]

-- what the machine takes a word for is the number that its bits mean at their width
pub word_signed : (w n : ℕ) → Width w → n < 2 ^ w → signed64 (extended w n) ≡ signed w n
word_signed w n is lt = elim (below_or n (2 ^ (w - 1))) [
  | inl low ↦
      let e : extended w n ≡ n = low_word w n is low in
      ap signed64 e ∙ ap (λ (b : Bool). if b then pos n else negsuc (2 ^ 64 - suc n)) (lt-ltb n (2 ^ 63) (omega (arith, is.half))) ∙ sym (low_signed w n low)
  | inr high ↦
      let e : extended w n ≡ n + (2 ^ 64 - 2 ^ w) = high_word w n is lt high in
      let x : ℕ = n + (2 ^ 64 - 2 ^ w) in
      let many : 2 ^ 63 ≤ x = omega (arith, is.whole, is.half) in
      ap signed64 e ∙ ap (λ (b : Bool). if b then pos x else negsuc (2 ^ 64 - suc x)) (le-ltb x (2 ^ 63) many)
      ∙ ap negsuc (let same : 2 ^ 64 - suc x ≡ 2 ^ w - suc n = omega (arith, is.whole, is.half) in same) ∙ sym (high_signed w n lt high)
]

-- the number of a word
pub word_number : (w n : ℕ) → Width w → n < 2 ^ w → extended w n % 2 ^ w ≡ n
word_number w n is lt = elim (below_or n (2 ^ (w - 1))) [
  | inl low ↦ ap (λ (x : ℕ). x % 2 ^ w) (low_word w n is low) ∙ mod-eq_of_lt lt
  | inr high ↦
      ap (λ (x : ℕ). x % 2 ^ w) (high_word w n is lt high)
      ∙ ap (λ (x : ℕ). x % 2 ^ w) (rest (2 ^ (64 - w)) (2 ^ w) is.rest is.word)
      ∙ mod_low (2 ^ (64 - w) - 1) w n lt
]
  where
    rest : (count size : ℕ) → 0 < count → size * count ≡ 2 ^ 64 → n + (2 ^ 64 - size) ≡ (count - 1) * size + n
    rest zero size some whole = absurd (omega arith)
    rest (suc count) size some whole =
        let split : size * suc count ≡ size + count * size = omega arith in
        let less : suc count - 1 ≡ count = omega arith in
        (let same : n + (2 ^ 64 - size) ≡ count * size + n = omega arith in same) ∙ sym (ap (λ (k : ℕ). k * size + n) less)

-- ---- signed numbers of a width
-- a number lies in the range of a width
pub data InRange (w : ℕ) : ℤ → Type 0 where
  above : (n : ℕ) → n < 2 ^ (w - 1) → InRange w (pos n)
  below : (n : ℕ) → n < 2 ^ (w - 1) → InRange w (negsuc n)

pub signed_range : (w n : ℕ) → Width w → n < 2 ^ w → InRange w (signed w n)
signed_range w n is lt = elim (below_or n (2 ^ (w - 1))) [
  | inl low ↦ subst (InRange w) (sym (low_signed w n low)) (above n low)
  | inr high ↦ subst (InRange w) (sym (high_signed w n lt high)) (below (2 ^ w - suc n) (omega (arith, is.whole)))
]

-- the bits of such a number, extended, are its word
pub range_word : (w : ℕ) (z : ℤ) → Width w → InRange w z → extended w (bits_of w z) ≡ bits64 z
range_word w _ is (above n small) =
    ap (extended w) (mod-eq_of_lt (let e : n < 2 ^ w = omega (arith, is.whole) in e)) ∙ low_word w n is small
range_word w _ is (below n small) =
    let bits : bits_of w (negsuc n) ≡ 2 ^ w - suc n = ap (λ (x : ℕ). 2 ^ w - 1 - x) (mod-eq_of_lt (let e : n < 2 ^ w = omega (arith, is.whole) in e)) ∙ omega arith in
    ap (extended w) bits ∙ high_word w (2 ^ w - suc n) is (omega (arith, is.whole, is.positive)) (omega (arith, is.whole)) ∙ omega (arith, is.whole, is.half)
