-- The words of conversions.
use Rattle.std.proofs.Common.{◌≡◌, ◌≢◌, ◌≤◌, ◌<◌, ℕ, zero, suc, ◌+◌, ◌-◌, ◌*◌, ◌/◌, ◌%◌, ◌^◌, ◌==◌, ℤ, pos, negsuc, Bool, true, false, if◌then◌else◌, List, [], ◌∷◌, Some, None, Option, inl, inr, arith, refl, ap, ap₂, sym, ◌∙◌, subst}
use Rattle.std.proofs.lemmas.Bool.Decides.{eqb_tells}
use Rattle.std.proofs.lemmas.Nat.{shl-shr, div-add-mod', pow-add}
use Rattle.std.proofs.Math.Nat.{mod-lt, mod-eq_of_lt, pow-le-pow_right, mul-add-mod_self_right}
use Rattle.ir_tree.specs.declared.module.Conv.{Conv}
use Rattle.ir_tree.specs.declared.module.Conv.TheVariants.{Zext, Sext, Trunc}
use Rattle.ir_model.specs.Integers.{signed, bits_of, converted}
use Rattle.ir_model.specs.Pointers.{extended}
use Rattle.rv_inst.specs.declared.instruction.Form.TheVariants as rv
use Rattle.rv_model.specs.State.{plus64}
use Rattle.rv_model.specs.Operations.{bits64, shifted_left, shifted_right, word32}
use Rattle.flip_frames.specs.Views.{with_value}
use Rattle.flip_frames.specs.Computing.{effect_of}
use Rattle.flip_versions.specs.Operations.{Leaves}
use Rattle.ir_typed_runs.specs.Kinds.{Converts}
use Rattle.op_words.specs.Words.{narrowed, convert_words}
use Rattle.op_words.proofs.Powers.{Width}
use Rattle.op_words.proofs.Extended.{low_word, word_below, word_number, as_machine, InRange, above, below, signed_range, range_word}
use Rattle.op_words.proofs.Shifts.{raised_to}
use Rattle.op_words.proofs.Effects.{two_in, narrowed_effect}

half_grows : (w u : ℕ) → w ≤ u → 2 ^ (w - 1) ≤ 2 ^ (u - 1)
half_grows w u le = pow-le-pow_right {n = 2} (omega arith) {i = w - 1} {j = u - 1} (omega arith)

-- ---- extended by zeros
zero_word : (from to n : ℕ) → Width from → Width to → from < to → n < 2 ^ from → shifted_right (shifted_left (extended from n) (64 - from)) (64 - from) ≡ extended to n
zero_word from to n is it wider lt =
    let narrow : from < 64 = omega (arith, it.most) in
    let amount : (64 - from) % 64 ≡ 64 - from = mod-eq_of_lt (let e : 64 - from < 64 = omega (arith, is.some) in e) in
    let fits : 2 ^ from ≤ 2 ^ (to - 1) = pow-le-pow_right {n = 2} (omega arith) {i = from} {j = to - 1} (omega arith) in
    ap (λ (x : ℕ). shifted_right x (64 - from)) (raised_to from (extended from n) is narrow ∙ ap (λ (x : ℕ). x * 2 ^ (64 - from)) (word_number from n is lt))
    ∙ ap (λ (k : ℕ). n * 2 ^ (64 - from) / 2 ^ k) amount ∙ shl-shr n (64 - from) ∙ sym (low_word to n it (omega arith))

-- ---- extended by their sign
range_grows : (w u : ℕ) (z : ℤ) → w ≤ u → InRange w z → InRange u z
range_grows w u _ le (above n small) = above n (let grows = half_grows w u le in omega arith)
range_grows w u _ le (below n small) = below n (let grows = half_grows w u le in omega arith)

bits_agree : (w : ℕ) (z : ℤ) → Width w → InRange w z → bits_of 64 z ≡ bits64 z
bits_agree w _ is (above n small) = mod-eq_of_lt (let e : n < 2 ^ 64 = omega (arith, is.half) in e)
bits_agree w _ is (below n small) =
    ap (λ (x : ℕ). 2 ^ 64 - 1 - x) (mod-eq_of_lt (let e : n < 2 ^ 64 = omega (arith, is.half) in e)) ∙ (let e : 2 ^ 64 - 1 - n ≡ 2 * 2 ^ 63 - suc n = omega arith in e)

sign_word : (from to n : ℕ) → Width from → Width to → from < to → n < 2 ^ from → extended from n ≡ extended to (bits_of to (signed from n))
sign_word from to n is it wider lt =
    let range : InRange from (signed from n) = signed_range from n is lt in
    bits_agree from (signed from n) is range ∙ sym (range_word to (signed from n) it (range_grows from to (signed from n) (omega arith) range))

-- ---- cut off
low_bits : (from to x n : ℕ) → to ≤ from → x % 2 ^ from ≡ n → x % 2 ^ to ≡ n % 2 ^ to
low_bits from to x n le is =
    let split : x ≡ x / 2 ^ from * 2 ^ from + n = sym (div-add-mod' x (2 ^ from)) ∙ ap (λ (r : ℕ). x / 2 ^ from * 2 ^ from + r) is in
    let parts : 2 ^ from ≡ 2 ^ (from - to) * 2 ^ to = ap (λ (k : ℕ). 2 ^ k) (let e : from ≡ from - to + to = omega arith in e) ∙ pow-add 2 (from - to) to in
    ap (λ (y : ℕ). y % 2 ^ to) (split ∙ ap (λ (p : ℕ). x / 2 ^ from * p + n) parts ∙ (let e : x / 2 ^ from * (2 ^ (from - to) * 2 ^ to) + n ≡ x / 2 ^ from * 2 ^ (from - to) * 2 ^ to + n = omega arith in e))
    ∙ mul-add-mod_self_right (x / 2 ^ from * 2 ^ (from - to)) (2 ^ to) n

cut_word : (from to n : ℕ) → Width from → Width to → to < from → n < 2 ^ from
    → Leaves (convert_words Trunc from to) (Some (extended from n)) None (Some (extended to (n % 2 ^ to)))
unfolding with_value
cut_word from to n is it less lt = elim (eqb_tells to 32) [
  | inl e ↦
      ap (λ (short : Bool). effect_of (if short then rv.ADDIW 5 5 (pos 0) ∷ [] else narrowed to) (two_in (Some X) None) 5) e.0
      ∙ ap Some (ap word32 (whole X below_word) ∙ machine e.1 ∙ ap (extended to) low)
  | inr e ↦
      ap (λ (short : Bool). effect_of (if short then rv.ADDIW 5 5 (pos 0) ∷ [] else narrowed to) (two_in (Some X) None) 5) e.0
      ∙ narrowed_effect to (two_in (Some X) None) X it below_word refl ∙ ap (λ (m : ℕ). Some (extended to m)) low
]
  where
    X : ℕ
    X = extended from n

    below_word : X < 2 ^ 64
    below_word = word_below from n is lt

    low : X % 2 ^ to ≡ n % 2 ^ to
    low = low_bits from to X n (omega arith) (word_number from n is lt)

    whole : (x : ℕ) → x < 2 ^ 64 → plus64 x 0 ≡ x
    whole x small = ap (λ (y : ℕ). y % 2 ^ 64) (let e : x + 0 ≡ x = omega arith in e) ∙ mod-eq_of_lt small

    machine : to ≡ 32 → word32 X ≡ extended to (X % 2 ^ to)
    machine e = subst (λ (v : ℕ). word32 X ≡ extended v (X % 2 ^ v)) (sym e) (as_machine 32 (X % 2 ^ 32) (subst Width e it) (mod-lt X (omega arith)))

pub convert_leaves : (conversion : Conv) (from to n : ℕ) → Width from → Width to → Converts conversion from to → n < 2 ^ from
    → Leaves (convert_words conversion from to) (Some (extended from n)) None (Some (extended to (converted conversion from to n)))
unfolding with_value
convert_leaves Zext from to n is it leads lt = ap Some (zero_word from to n is it leads lt)
convert_leaves Sext from to n is it leads lt = ap Some (sign_word from to n is it leads lt)
convert_leaves Trunc from to n is it leads lt = cut_word from to n is it leads lt
