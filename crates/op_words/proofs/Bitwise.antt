-- The words of operations on bits: the result needs no cut.
use Rattle.std.proofs.Common.{◌≡◌, ◌≤◌, ◌<◌, ℕ, zero, suc, ◌+◌, ◌-◌, ◌*◌, ◌/◌, ◌%◌, ◌^◌, Some, inl, inr, bit_and, bit_or, arith, refl, ap, ap₂, sym, ◌∙◌, subst}
use Rattle.std.specs.Prelude.{bit_xor, ◌⊎◌}
use Rattle.std.specs.Int.Bits.{or_self, xor_self, and_zero_r, or_zero_r, xor_zero_r}
use Rattle.std.proofs.lemmas.Nat.{and_shr, or_shr, xor_shr, and_mod, or_mod, xor_mod, and_mask, and_le_l, or_lt, xor_lt, div-add-mod', div-mul-add, pow-add, pow_pos}
use Rattle.std.proofs.Math.Nat.{mod-lt, mod-eq_of_lt}
use Rattle.ir_tree.specs.declared.module.Bin.TheVariants.{And, Or, Xor}
use Rattle.ir_model.specs.Integers.{result_of}
use Rattle.ir_model.specs.Pointers.{extended}
use Rattle.flip_frames.specs.Views.{with_value}
use Rattle.flip_versions.specs.Operations.{Leaves}
use Rattle.op_words.specs.Words.{binary_words}
use Rattle.op_words.proofs.Powers.{Width}
use Rattle.op_words.proofs.Extended.{below_or, low_word, high_word, word_below, word_number}
use Rattle.op_words.proofs.Binaries.{Two}

-- all bits from the sign of a width on
abbrev pub ones : ℕ → ℕ
ones w = 2 ^ (65 - w) - 1

-- the bits from the sign on are all zeros, or all ones
abbrev pub IsSpread : ℕ → ℕ → Type 0
IsSpread w x = (x / 2 ^ (w - 1) ≡ 0) ⊎ (x / 2 ^ (w - 1) ≡ ones w)

-- halves of the width's numbers in a word
halves : (w : ℕ) → Width w → 2 ^ (65 - w) * 2 ^ (w - 1) ≡ 2 ^ 64
halves w is =
    sym (pow-add 2 (65 - w) (w - 1)) ∙ ap (λ (n : ℕ). 2 ^ n) (let e : 65 - w + (w - 1) ≡ 64 = omega (arith, is.some, is.most) in e)

high_part : (H K W n : ℕ) → K * H ≡ 2 ^ 64 → W ≡ 2 * H → W ≤ 2 ^ 64 → H ≤ n → n < W → n + (2 ^ 64 - W) ≡ (K - 1) * H + (n - H)
high_part H zero W n whole twice fits high lt = absurd (omega arith)
high_part H (suc K) W n whole twice fits high lt =
    let less : suc K - 1 ≡ K = omega arith in
    (let e : n + (2 ^ 64 - W) ≡ K * H + (n - H) = omega arith in e) ∙ ap (λ (k : ℕ). k * H + (n - H)) (sym less)

pub spread : (w n : ℕ) → Width w → n < 2 ^ w → IsSpread w (extended w n)
spread w n is lt = elim (below_or n (2 ^ (w - 1))) [
  | inl low ↦ inl (ap (λ (x : ℕ). x / 2 ^ (w - 1)) (low_word w n is low ∙ (let e : n ≡ 0 * 2 ^ (w - 1) + n = omega arith in e)) ∙ div-mul-add 0 (2 ^ (w - 1)) n low)
  | inr high ↦
      inr (ap (λ (x : ℕ). x / 2 ^ (w - 1)) (high_word w n is lt high ∙ high_part (2 ^ (w - 1)) (2 ^ (65 - w)) (2 ^ w) n (halves w is) is.whole (omega (arith, is.whole, is.half)) high lt)
      ∙ div-mul-add (ones w) (2 ^ (w - 1)) (n - 2 ^ (w - 1)) (omega (arith, is.whole)))
]

-- a word whose bits are so is that of its low bits
pub spread_word : (w x : ℕ) → Width w → x < 2 ^ 64 → IsSpread w x → x ≡ extended w (x % 2 ^ w)
spread_word w x is lt (inl low) =
    let split : x / 2 ^ (w - 1) * 2 ^ (w - 1) + x % 2 ^ (w - 1) ≡ x = div-add-mod' x (2 ^ (w - 1)) in
    let rest : x % 2 ^ (w - 1) < 2 ^ (w - 1) = mod-lt x is.positive in
    let small : x < 2 ^ (w - 1) = let none : x / 2 ^ (w - 1) * 2 ^ (w - 1) ≡ 0 = ap (λ (q : ℕ). q * 2 ^ (w - 1)) low ∙ (let e : 0 * 2 ^ (w - 1) ≡ 0 = omega arith in e) in omega arith in
    sym (ap (extended w) (mod-eq_of_lt (let e : x < 2 ^ w = omega (arith, is.whole) in e)) ∙ low_word w x is small)
spread_word w x is lt (inr high) =
    let H : ℕ = 2 ^ (w - 1) in
    let r : ℕ = x % H in
    let rest : r < H = mod-lt x is.positive in
    let split : x ≡ (2 ^ (65 - w) - 1) * H + r = sym (div-add-mod' x H) ∙ ap (λ (q : ℕ). q * H + r) high in
    let n : ℕ = H + r in
    let below : n < 2 ^ w = omega (arith, is.whole) in
    let word : x ≡ n + (2 ^ 64 - 2 ^ w) =
    split ∙ sym (high_part H (2 ^ (65 - w)) (2 ^ w) n (halves w is) is.whole (omega (arith, is.whole, is.half)) (omega arith) below ∙ ap (λ (m : ℕ). (2 ^ (65 - w) - 1) * H + m) (let e : n - H ≡ r = omega arith in e)) in
    let same : x ≡ extended w n = word ∙ sym (high_word w n is below (omega arith)) in
    same ∙ ap (extended w) (sym (ap (λ (y : ℕ). y % 2 ^ w) same ∙ word_number w n is below))

-- what comes of such bits
and_spread : (w x y : ℕ) → IsSpread w x → IsSpread w y → IsSpread w (bit_and x y)
and_spread w x y (inl e) sy = inl (and_shr x y (w - 1) ∙ ap (λ (n : ℕ). bit_and n (y / 2 ^ (w - 1))) e)
and_spread w x y (inr e) (inl f) = inl (and_shr x y (w - 1) ∙ ap (bit_and (x / 2 ^ (w - 1))) f ∙ and_zero_r (x / 2 ^ (w - 1)))
and_spread w x y (inr e) (inr f) =
    inr (and_shr x y (w - 1) ∙ ap₂ bit_and e f ∙ and_mask (ones w) (65 - w) ∙ mod-eq_of_lt (omega (arith, some_ones w)))
  where
    some_ones : (v : ℕ) → 0 < 2 ^ (65 - v)
    some_ones v = pow_pos (65 - v)

or_spread : (w x y : ℕ) → IsSpread w x → IsSpread w y → IsSpread w (bit_or x y)
or_spread w x y (inl e) (inl f) = inl (or_shr x y (w - 1) ∙ ap₂ bit_or e f)
or_spread w x y (inl e) (inr f) = inr (or_shr x y (w - 1) ∙ ap₂ bit_or e f)
or_spread w x y (inr e) (inl f) = inr (or_shr x y (w - 1) ∙ ap₂ bit_or e f ∙ or_zero_r (ones w))
or_spread w x y (inr e) (inr f) = inr (or_shr x y (w - 1) ∙ ap₂ bit_or e f ∙ or_self (ones w))

xor_spread : (w x y : ℕ) → IsSpread w x → IsSpread w y → IsSpread w (bit_xor x y)
xor_spread w x y (inl e) (inl f) = inl (xor_shr x y (w - 1) ∙ ap₂ bit_xor e f)
xor_spread w x y (inl e) (inr f) = inr (xor_shr x y (w - 1) ∙ ap₂ bit_xor e f)
xor_spread w x y (inr e) (inl f) = inr (xor_shr x y (w - 1) ∙ ap₂ bit_xor e f ∙ xor_zero_r (ones w))
xor_spread w x y (inr e) (inr f) = inl (xor_shr x y (w - 1) ∙ ap₂ bit_xor e f ∙ xor_self (ones w))

module _ (w a b : ℕ) (two : Two w a b) where
  abbrev A : ℕ
  A = extended w a

  abbrev B : ℕ
  B = extended w b

  left_below : A < 2 ^ 64
  left_below = word_below w a two.is two.left

  right_below : B < 2 ^ 64
  right_below = word_below w b two.is two.right

  -- a word with such bits, whose low bits are a result
  leaves : (x v : ℕ) → x < 2 ^ 64 → IsSpread w x → x % 2 ^ w ≡ v → Some x ≡ Some (extended w v)
  leaves x v lt are low = ap Some (spread_word w x two.is lt are ∙ ap (extended w) low)

  pub and_leaves : (v : ℕ) → result_of And w a b ≡ v → Leaves (binary_words And w) (Some A) (Some B) (Some (extended w v))
  unfolding with_value
  and_leaves v is =
      leaves (bit_and A B) v (let le : bit_and A B ≤ A = and_le_l A B in omega (arith, left_below))
      (and_spread w A B (spread w a two.is two.left) (spread w b two.is two.right))
      (and_mod A B w ∙ ap₂ bit_and (word_number w a two.is two.left) (word_number w b two.is two.right) ∙ is)

  pub or_leaves : (v : ℕ) → result_of Or w a b ≡ v → Leaves (binary_words Or w) (Some A) (Some B) (Some (extended w v))
  unfolding with_value
  or_leaves v is =
      leaves (bit_or A B) v (or_lt 64 A B left_below right_below)
      (or_spread w A B (spread w a two.is two.left) (spread w b two.is two.right))
      (or_mod A B w ∙ ap₂ bit_or (word_number w a two.is two.left) (word_number w b two.is two.right) ∙ is)

  pub xor_leaves : (v : ℕ) → result_of Xor w a b ≡ v → Leaves (binary_words Xor w) (Some A) (Some B) (Some (extended w v))
  unfolding with_value
  xor_leaves v is =
      leaves (bit_xor A B) v (xor_lt 64 A B left_below right_below)
      (xor_spread w A B (spread w a two.is two.left) (spread w b two.is two.right))
      (xor_mod A B w ∙ ap₂ bit_xor (word_number w a two.is two.left) (word_number w b two.is two.right) ∙ is)
