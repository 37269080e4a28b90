-- A word that is shifted to the top and back is cut to a width, and extended by its sign.
use Rattle.std.proofs.Common.{◌≡◌, ◌≤◌, ◌<◌, ℕ, zero, suc, ◌+◌, ◌-◌, ◌*◌, ◌/◌, ◌%◌, ◌^◌, ℤ, pos, negsuc, Bool, true, false, if◌then◌else◌, inl, inr, arith, refl, ap, sym, ◌∙◌, subst}
use Rattle.std.specs.Int.{int_shr}
use Rattle.std.proofs.lemmas.Bool.{le-ltb, lt-ltb}
use Rattle.std.proofs.lemmas.Nat.{mod_low, mul-le, div-mul-add, shl-shr, div-add-mod'}
use Rattle.std.proofs.Math.Nat.{mod-lt, mod-eq_of_lt}
use Rattle.ir_model.specs.Pointers.{extended}
use Rattle.rv_model.specs.Operations.{bits64, signed64, shifted_left, shifted_right, shifted_signed}
use Rattle.op_words.proofs.Powers.{Width}
use Rattle.op_words.proofs.Extended.{below_or, low_word, high_word}

-- what a word is taken for, below half and from half on
pub low_number : (x : ℕ) → x < 2 ^ 63 → signed64 x ≡ pos x
low_number x low = ap (λ (b : Bool). if b then pos x else negsuc (2 ^ 64 - suc x)) (lt-ltb x (2 ^ 63) low)

pub high_number : (x : ℕ) → 2 ^ 63 ≤ x → signed64 x ≡ negsuc (2 ^ 64 - suc x)
high_number x high = ap (λ (b : Bool). if b then pos x else negsuc (2 ^ 64 - suc x)) (le-ltb x (2 ^ 63) high)

-- so many times a number below another one
pub times_below : (r W K : ℕ) → r < W → W * K ≡ 2 ^ 64 → r * K + K ≤ 2 ^ 64
times_below r W K lt whole =
    let le : suc r * K ≤ W * K = mul-le (suc r) K W K lt (omega arith) in
    omega arith

-- at the top of a word there are the low bits of a number
pub top_of : (W K q r : ℕ) → W * K ≡ 2 ^ 64 → 0 < K → r < W → (q * W + r) * K % 2 ^ 64 ≡ r * K
top_of W K q r whole some lt =
    let low : r * K < 2 ^ 64 = omega (arith, times_below r W K lt whole) in
    let parts : (q * W + r) * K ≡ q * 2 ^ 64 + r * K = (let e : (q * W + r) * K ≡ q * (W * K) + r * K = omega arith in e) ∙ ap (λ (p : ℕ). q * p + r * K) whole in
    ap (λ (p : ℕ). p % 2 ^ 64) parts ∙ mod_low q 64 (r * K) low

pub raised_to : (w x : ℕ) → Width w → w < 64 → shifted_left x (64 - w) ≡ x % 2 ^ w * 2 ^ (64 - w)
raised_to w x is narrow =
    let amount : (64 - w) % 64 ≡ 64 - w = mod-eq_of_lt (let e : 64 - w < 64 = omega (arith, is.some) in e) in
    let r : ℕ = x % 2 ^ w in
    let split : x ≡ x / 2 ^ w * 2 ^ w + x % 2 ^ w = sym (div-add-mod' x (2 ^ w)) in
    ap (λ (j : ℕ). x * 2 ^ j % 2 ^ 64) amount
    ∙ ap (λ (p : ℕ). p * 2 ^ (64 - w) % 2 ^ 64) split
    ∙ top_of (2 ^ w) (2 ^ (64 - w)) (x / 2 ^ w) (x % 2 ^ w) is.word is.rest (mod-lt x (let e : 0 < 2 ^ w = omega (arith, is.whole, is.positive) in e))

-- ---- down from the top
-- a number at the top of a word, of which other bits lie below it
pub record AtTop (w r low : ℕ) : Type 0 where
  pub is : Width w
  pub narrow : w < 64
  pub below : r < 2 ^ w
  pub rest : low < 2 ^ (64 - w)

-- how much is divided away
amount_is : (w : ℕ) → Width w → w < 64 → (64 - w) % 64 ≡ 64 - w
amount_is w is narrow = mod-eq_of_lt (let e : 64 - w < 64 = omega (arith, is.some) in e)

mirrored : (W K r low : ℕ) → W * K ≡ 2 ^ 64 → r < W → low < K → (2 ^ 64 - suc (r * K + low)) / K ≡ W - suc r
mirrored W K r low whole lt rest =
    let d : ℕ = W - suc r in
    let split : W ≡ d + suc r = omega arith in
    let parts : (d + suc r) * K ≡ 2 ^ 64 = ap (λ (v : ℕ). v * K) (sym split) ∙ whole in
    let same : 2 ^ 64 - suc (r * K + low) ≡ d * K + (K - suc low) = omega arith in
    ap (λ (v : ℕ). v / K) same ∙ div-mul-add d K (K - suc low) (omega arith)

pub lowered_to : (w r low : ℕ) → AtTop w r low → shifted_signed (r * 2 ^ (64 - w) + low) (64 - w) ≡ extended w r
lowered_to w r low top =
    let K : ℕ = 2 ^ (64 - w) in
    let x : ℕ = r * K + low in
    let is = top.is in
    let lt : r < 2 ^ w = top.below in
    let rest : low < K = top.rest in
    let whole : 2 ^ w * K ≡ 2 ^ 64 = is.word in
    let halves : 2 ^ w ≡ 2 * 2 ^ (w - 1) = is.whole in
    let middle : 2 ^ (w - 1) * K ≡ 2 ^ 63 =
    (let doubled : 2 * 2 ^ (w - 1) * K ≡ 2 ^ 64 = ap (λ (v : ℕ). v * K) (sym halves) ∙ whole in let e : 2 ^ (w - 1) * K ≡ 2 ^ 63 = omega arith in e) in
    ap (λ (j : ℕ). bits64 (int_shr (signed64 x) j)) (amount_is w is top.narrow)
    ∙ elim (below_or r (2 ^ (w - 1))) [
      | inl small ↦
          let le : suc r * K ≤ 2 ^ (w - 1) * K = mul-le (suc r) K (2 ^ (w - 1)) K small (omega arith) in
          let bound : x < 2 ^ 63 = omega arith in
          ap (λ (z : ℤ). bits64 (int_shr z (64 - w))) (low_number x bound) ∙ div-mul-add r K low rest ∙ sym (low_word w r is small)
      | inr large ↦
          let le : 2 ^ (w - 1) * K ≤ r * K = mul-le (2 ^ (w - 1)) K r K large (omega arith) in
          let bound : 2 ^ 63 ≤ x = omega arith in
          ap (λ (z : ℤ). bits64 (int_shr z (64 - w))) (high_number x bound)
          ∙ ap (λ (v : ℕ). bits64 (negsuc v)) (mirrored (2 ^ w) K r low whole lt rest)
          ∙ (let e : 2 ^ 64 - suc (2 ^ w - suc r) ≡ r + (2 ^ 64 - 2 ^ w) = omega (arith, is.half) in e)
          ∙ sym (high_word w r is lt large)
    ]

-- up and down again
pub cut_to : (w x : ℕ) → Width w → w < 64 → shifted_signed (shifted_left x (64 - w)) (64 - w) ≡ extended w (x % 2 ^ w)
cut_to w x is narrow =
    let r : ℕ = x % 2 ^ w in
    let lt : r < 2 ^ w = mod-lt x (let e : 0 < 2 ^ w = omega (arith, is.whole, is.positive) in e) in
    ap (λ (v : ℕ). shifted_signed v (64 - w)) (raised_to w x is narrow ∙ (let e : r * 2 ^ (64 - w) ≡ r * 2 ^ (64 - w) + 0 = omega arith in e))
    ∙ lowered_to w r 0 (record { is = is; narrow = narrow; below = lt; rest = is.rest })
