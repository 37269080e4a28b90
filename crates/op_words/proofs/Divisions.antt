-- The words of divisions and of shifts to the right.
use Rattle.std.proofs.Common.{◌≡◌, ◌≢◌, ◌≤◌, ◌<◌, ℕ, zero, suc, ◌+◌, ◌-◌, ◌*◌, ◌/◌, ◌%◌, ◌^◌, ◌==◌, ℤ, pos, negsuc, Bool, true, false, ◌&&◌, if◌then◌else◌, List, [], ◌∷◌, ◌++◌, Some, None, Option, inl, inr, arith, refl, ap, ap₂, sym, ◌∙◌, subst}
use Rattle.std.specs.Prelude.{int_div, int_rem, neg_ℤ, unsigned_abs}
use Rattle.std.specs.Int.{int_shr}
use Rattle.std.proofs.lemmas.Bool.{ne_eqb, cases_lt}
use Rattle.std.proofs.lemmas.Bool.Decides.{eqb_tells, nat_tests}
use Rattle.std.proofs.lemmas.Nat.{mul-le, mod-mul-add, div-add-mod', div_below, pow_pos}
use Rattle.std.proofs.Math.Nat.{mod-lt, mod-le, mod-eq_of_lt, div-le_self, div-lt_self, add-mul-div_right, mul-div-mul_right}
use Rattle.ir_tree.specs.declared.module.Bin.TheVariants.{Udiv, Sdiv, Lshr, Ashr, Urem, Srem}
use Rattle.ir_model.specs.Integers.{signed, bits_of, result_of, has_no_quotient}
use Rattle.ir_model.specs.Pointers.{extended}
use Rattle.rv_inst.specs.declared.instruction.Form.{Form}
use Rattle.rv_inst.specs.declared.instruction.Form.TheVariants as rv
use Rattle.rv_model.specs.Operations.{bits64, signed64, all_ones, shifted_left, shifted_right, shifted_signed, quotient, remainder, quotient_unsigned, remainder_unsigned}
use Rattle.flip_frames.specs.Views.{with_value}
use Rattle.flip_frames.specs.Computing.{effect_of, of_both}
use Rattle.flip_versions.specs.Operations.{Leaves}
use Rattle.op_words.specs.Words.{narrowed, raised, both_raised, lowered, binary_words}
use Rattle.op_words.proofs.Powers.{Width}
use Rattle.op_words.proofs.Extended.{below_or, low_signed, high_signed, low_word, word_below, word_signed, word_number, InRange, above, below, signed_range, range_word}
use Rattle.op_words.proofs.Shifts.{raised_to, AtTop, lowered_to, cut_to}
use Rattle.op_words.proofs.Effects.{File, two_in, joined, narrowed_effect, whole_word}
use Rattle.op_words.proofs.Binaries.{Two, amount_word}

-- ---- signed results stay in the range of the width
negated : (w n : ℕ) → Width w → n ≤ 2 ^ (w - 1) → InRange w (neg_ℤ (pos n))
negated w zero is most = above 0 is.positive
negated w (suc n) is most = below n (omega arith)

-- a quotient of numbers below zero, unless it is that of the least one by -1
both_below : (H n d : ℕ) → n < H → ((suc n ≡ H) → (d ≡ 0) → ⊥) → suc n / suc d < H
both_below H n zero lt free =
    let le : suc n / 1 ≤ suc n = div-le_self (suc n) 1 in
    let other : suc n ≢ H = λ e. free e refl in
    omega arith
both_below H n (suc d) lt free =
    let less : suc n / suc (suc d) < suc n = div-lt_self (omega arith) (omega arith) in
    omega arith

quotient_range : (w a b : ℕ) → Two w a b → has_no_quotient Sdiv w a b ≡ false → InRange w (int_div (signed w a) (signed w b))
quotient_range w a b two some = elim (below_or a (2 ^ (w - 1))) [
  | inl low ↦ elim (below_or b (2 ^ (w - 1))) [
    | inl small ↦
        subst (InRange w) (sym (ap₂ int_div (low_signed w a low) (low_signed w b small)))
        (above (a / b) (let le : a / b ≤ a = div-le_self a b in omega arith))
    | inr large ↦
        let d : ℕ = 2 ^ w - suc b in
        subst (InRange w) (sym (ap₂ int_div (low_signed w a low) (high_signed w b two.right large)))
        (negated w (a / suc d) two.is (let le : a / suc d ≤ a = div-le_self a (suc d) in omega arith))
  ]
  | inr high ↦
      let n : ℕ = 2 ^ w - suc a in
      let within : n < 2 ^ (w - 1) = omega (arith, two.is.whole, two.left) in
      elim (below_or b (2 ^ (w - 1))) [
        | inl small ↦
            subst (InRange w) (sym (ap₂ int_div (high_signed w a two.left high) (low_signed w b small)))
            (negated w (suc n / b) two.is (let le : suc n / b ≤ suc n = div-le_self (suc n) b in omega arith))
        | inr large ↦
            let d : ℕ = 2 ^ w - suc b in
            let free : (suc n ≡ 2 ^ (w - 1)) → (d ≡ 0) → ⊥ =
            λ least one.
            let ia : a ≡ 2 ^ (w - 1) = omega (arith, two.is.whole, two.left) in
            let ib : b ≡ 2 ^ w - 1 = omega (arith, two.right) in
            not_both (a == 2 ^ (w - 1)) (b == 2 ^ w - 1) (same_eqb a (2 ^ (w - 1)) ia) (same_eqb b (2 ^ w - 1) ib) some in
            subst (InRange w) (sym (ap₂ int_div (high_signed w a two.left high) (high_signed w b two.right large)))
            (above (suc n / suc d) (both_below (2 ^ (w - 1)) n d within free))
      ]
]
  where
    same_eqb : (x y : ℕ) → x ≡ y → (x == y) ≡ true
    same_eqb x y e = grind (arith, nat_tests)

    not_both : (p q : Bool) → p ≡ true → q ≡ true → (p && q) ≡ false → ⊥
    not_both true true one other none = cc
    not_both true false one other none = cc
    not_both false q one other none = cc

remainder_range : (w : ℕ) (x y : ℤ) → Width w → InRange w x → InRange w (int_rem x y)
remainder_range w _ y is (above n small) = above (n % unsigned_abs y) (let le : n % unsigned_abs y ≤ n = mod-le n (unsigned_abs y) in omega arith)
remainder_range w _ y is (below n small) =
    negated w (suc n % unsigned_abs y) is (let le : suc n % unsigned_abs y ≤ suc n = mod-le (suc n) (unsigned_abs y) in omega arith)

shift_range : (w k : ℕ) (x : ℤ) → InRange w x → InRange w (int_shr x k)
shift_range w k _ (above n small) = above (n / 2 ^ k) (let le : n / 2 ^ k ≤ n = div-le_self n (2 ^ k) in omega arith)
shift_range w k _ (below n small) = below (n / 2 ^ k) (let le : n / 2 ^ k ≤ n = div-le_self n (2 ^ k) in omega arith)

-- ---- numbers at the top of a word
-- a number at the top, divided by another one
top_divided : (a K d : ℕ) → 0 < d → a * K / d ≡ a / d * K + a % d * K / d
top_divided a K d some =
    let split : a ≡ a / d * d + a % d = sym (div-add-mod' a d) in
    ap (λ (n : ℕ). n * K / d) split ∙ ap (λ (n : ℕ). n / d) (let e : (a / d * d + a % d) * K ≡ a % d * K + a / d * K * d = omega arith in e)
    ∙ add-mul-div_right (a % d * K) (a / d * K) some ∙ (let e : a % d * K / d + a / d * K ≡ a / d * K + a % d * K / d = omega arith in e)

rest_below : (a K d : ℕ) → 0 < d → 0 < K → a % d * K / d < K
rest_below a K d some positive =
    let lt : a % d < d = mod-lt a some in
    let le : suc (a % d) * K ≤ d * K = mul-le (suc (a % d)) K d K lt (omega arith) in
    div_below (a % d * K) d K some (let e : a % d * K < K * d = omega arith in e)

-- the remainder of two numbers at the top
top_remainder : (a b K : ℕ) → 0 < b → 0 < K → a * K % (b * K) ≡ a % b * K
top_remainder a b K some positive =
    let lt : a % b < b = mod-lt a some in
    let le : suc (a % b) * K ≤ b * K = mul-le (suc (a % b)) K b K lt (omega arith) in
    let split : a ≡ a / b * b + a % b = sym (div-add-mod' a b) in
    ap (λ (n : ℕ). n * K % (b * K)) split
    ∙ ap (λ (n : ℕ). n % (b * K)) (let e : (a / b * b + a % b) * K ≡ a / b * (b * K) + a % b * K = omega arith in e)
    ∙ mod-mul-add (a / b) (b * K) (a % b * K) (omega arith)

-- a number of 64 bits is its own word
own_word : (n : ℕ) → Width 64 → n < 2 ^ 64 → extended 64 n ≡ n
own_word n is lt = ap (extended 64) (sym (mod-eq_of_lt lt)) ∙ whole_word n is lt

module _ (w a b : ℕ) (two : Two w a b) where
  abbrev A : ℕ
  A = extended w a

  abbrev B : ℕ
  B = extended w b

  abbrev K : ℕ
  K = 2 ^ (64 - w)

  number_a : A % 2 ^ w ≡ a
  number_a = word_number w a two.is two.left

  number_b : B % 2 ^ w ≡ b
  number_b = word_number w b two.is two.right

  some_word : b ≢ 0 → (B == 0) ≡ false
  some_word some = ne_eqb B 0 (λ none. some (sym number_b ∙ ap (λ (n : ℕ). n % 2 ^ w) none ∙ mod-eq_of_lt (let e : 0 < 2 ^ w = omega (arith, two.right) in e)))

  -- ---- signed
  pub sdiv_leaves : (v : ℕ) → b ≢ 0 → has_no_quotient Sdiv w a b ≡ false → result_of Sdiv w a b ≡ v
      → Leaves (binary_words Sdiv w) (Some A) (Some B) (Some (extended w v))
  unfolding with_value
  sdiv_leaves v some quotient_there is =
      ap Some (ap (λ (none : Bool). if none then all_ones else bits64 (int_div (signed64 A) (signed64 B))) (some_word some)
      ∙ ap₂ (λ (x y : ℤ). bits64 (int_div x y)) (word_signed w a two.is two.left) (word_signed w b two.is two.right)
      ∙ sym (range_word w _ two.is (quotient_range w a b two quotient_there)) ∙ ap (extended w) is)

  pub srem_leaves : (v : ℕ) → b ≢ 0 → result_of Srem w a b ≡ v → Leaves (binary_words Srem w) (Some A) (Some B) (Some (extended w v))
  unfolding with_value
  srem_leaves v some is =
      ap Some (ap (λ (none : Bool). if none then A else bits64 (int_rem (signed64 A) (signed64 B))) (some_word some)
      ∙ ap₂ (λ (x y : ℤ). bits64 (int_rem x y)) (word_signed w a two.is two.left) (word_signed w b two.is two.right)
      ∙ sym (range_word w _ two.is (remainder_range w (signed w a) (signed w b) two.is (signed_range w a two.is two.left))) ∙ ap (extended w) is)

  amount_is : b < w → B % 64 ≡ b
  amount_is few = ap (λ (n : ℕ). n % 64) (amount_word w a b two few) ∙ mod-eq_of_lt (let e : b < 64 = omega (arith, two.is.most) in e)

  pub ashr_leaves : (v : ℕ) → b < w → result_of Ashr w a b ≡ v → Leaves (binary_words Ashr w) (Some A) (Some B) (Some (extended w v))
  unfolding with_value
  ashr_leaves v few is =
      ap Some (ap₂ (λ (z : ℤ) (n : ℕ). bits64 (int_shr z n)) (word_signed w a two.is two.left) (amount_is few)
      ∙ sym (range_word w _ two.is (shift_range w b (signed w a) (signed_range w a two.is two.left))) ∙ ap (extended w) is)

  -- ---- unsigned
  some_top : b ≢ 0 → (b * K == 0) ≡ false
  some_top some =
      ne_eqb (b * K) 0 (λ none. let le : 1 * 1 ≤ b * K = mul-le 1 1 b K (omega arith) two.is.rest in omega arith)

  left_raised : w < 64 → shifted_left A (64 - w) ≡ a * K
  left_raised narrow = raised_to w A two.is narrow ∙ ap (λ (n : ℕ). n * K) number_a

  right_raised : w < 64 → shifted_left B (64 - w) ≡ b * K
  right_raised narrow = raised_to w B two.is narrow ∙ ap (λ (n : ℕ). n * K) number_b

  whole_left : w ≡ 64 → A ≡ a
  whole_left e = subst (λ (v : ℕ). Width v → a < 2 ^ v → extended v a ≡ a) (sym e) (λ is lt. own_word a is lt) two.is two.left

  whole_right : w ≡ 64 → B ≡ b
  whole_right e = subst (λ (v : ℕ). Width v → b < 2 ^ v → extended v b ≡ b) (sym e) (λ is lt. own_word b is lt) two.is two.right

  whole_result : w ≡ 64 → (n : ℕ) → n ≤ a → n ≡ extended w n
  whole_result e n le =
      subst (λ (v : ℕ). Width v → n < 2 ^ v → n ≡ extended v n) (sym e) (λ is lt. sym (own_word n is lt)) two.is (let e' : n < 2 ^ w = omega (arith, two.left) in e')

  narrow_of : (w ≡ 64 → ⊥) → w < 64
  narrow_of other = omega (arith, two.is.most, other)

  pub lshr_leaves : (v : ℕ) → b < w → result_of Lshr w a b ≡ v → Leaves (binary_words Lshr w) (Some A) (Some B) (Some (extended w v))
  unfolding with_value
  lshr_leaves v few is = elim (eqb_tells w 64) [
    | inl e ↦
        ap (λ (whole : Bool). effect_of ((if whole then [] else rv.SLLI 5 5 (pos (64 - w)) ∷ []) ++ (rv.SRL 5 5 6 ∷ (if whole then [] else rv.SRAI 5 5 (pos (64 - w)) ∷ []))) (two_in (Some A) (Some B)) 5) e.0
        ∙ ap Some (ap₂ (λ (x n : ℕ). x / 2 ^ n) (whole_left e.1) (amount_is few) ∙ whole_result e.1 (a / 2 ^ b) (div-le_self a (2 ^ b)) ∙ ap (extended w) is)
    | inr e ↦
        let narrow : w < 64 = narrow_of e.1 in
        let some : 0 < 2 ^ b = pow_pos b in
        ap (λ (whole : Bool). effect_of ((if whole then [] else rv.SLLI 5 5 (pos (64 - w)) ∷ []) ++ (rv.SRL 5 5 6 ∷ (if whole then [] else rv.SRAI 5 5 (pos (64 - w)) ∷ []))) (two_in (Some A) (Some B)) 5) e.0
        ∙ ap Some (ap₂ (λ (x n : ℕ). shifted_signed (x / 2 ^ n) (64 - w)) (left_raised narrow) (amount_is few)
        ∙ ap (λ (x : ℕ). shifted_signed x (64 - w)) (top_divided a K (2 ^ b) some)
        ∙ lowered_to w (a / 2 ^ b) (a % 2 ^ b * K / 2 ^ b) (record {
          is = two.is;
          narrow = narrow;
          below = let le : a / 2 ^ b ≤ a = div-le_self a (2 ^ b) in omega (arith, two.left);
          rest = rest_below a K (2 ^ b) some two.is.rest;
        }) ∙ ap (extended w) is)
  ]

  pub urem_leaves : (v : ℕ) → b ≢ 0 → result_of Urem w a b ≡ v → Leaves (binary_words Urem w) (Some A) (Some B) (Some (extended w v))
  unfolding with_value
  urem_leaves v some is = elim (eqb_tells w 64) [
    | inl e ↦
        ap (λ (whole : Bool). effect_of ((if whole then [] else rv.SLLI 5 5 (pos (64 - w)) ∷ rv.SLLI 6 6 (pos (64 - w)) ∷ []) ++ (rv.REMU 5 5 6 ∷ (if whole then [] else rv.SRAI 5 5 (pos (64 - w)) ∷ []))) (two_in (Some A) (Some B)) 5) e.0
        ∙ ap Some (ap (λ (none : Bool). if none then A else A % B) (some_word some) ∙ ap₂ (λ (x y : ℕ). x % y) (whole_left e.1) (whole_right e.1)
        ∙ whole_result e.1 (a % b) (mod-le a b) ∙ ap (extended w) is)
    | inr e ↦
        let narrow : w < 64 = narrow_of e.1 in
        ap (λ (whole : Bool). effect_of ((if whole then [] else rv.SLLI 5 5 (pos (64 - w)) ∷ rv.SLLI 6 6 (pos (64 - w)) ∷ []) ++ (rv.REMU 5 5 6 ∷ (if whole then [] else rv.SRAI 5 5 (pos (64 - w)) ∷ []))) (two_in (Some A) (Some B)) 5) e.0
        ∙ ap Some (ap₂ (λ (x y : ℕ). shifted_signed (remainder_unsigned x y) (64 - w)) (left_raised narrow) (right_raised narrow)
        ∙ ap (λ (none : Bool). shifted_signed (if none then a * K else a * K % (b * K)) (64 - w)) (some_top some)
        ∙ ap (λ (x : ℕ). shifted_signed x (64 - w)) (top_remainder a b K (omega arith) two.is.rest ∙ (let e' : a % b * K ≡ a % b * K + 0 = omega arith in e'))
        ∙ lowered_to w (a % b) 0 (record { is = two.is; narrow = narrow; below = let le : a % b ≤ a = mod-le a b in omega (arith, two.left); rest = two.is.rest })
        ∙ ap (extended w) is)
  ]

  pub udiv_leaves : (v : ℕ) → b ≢ 0 → result_of Udiv w a b ≡ v → Leaves (binary_words Udiv w) (Some A) (Some B) (Some (extended w v))
  unfolding with_value
  udiv_leaves v some is = elim (eqb_tells w 64) [
    | inl e ↦
        ap (λ (whole : Bool). effect_of ((if whole then [] else rv.SLLI 5 5 (pos (64 - w)) ∷ rv.SLLI 6 6 (pos (64 - w)) ∷ []) ++ (rv.DIVU 5 5 6 ∷ (if whole then [] else rv.SLLI 5 5 (pos (64 - w)) ∷ rv.SRAI 5 5 (pos (64 - w)) ∷ []))) (two_in (Some A) (Some B)) 5) e.0
        ∙ ap Some (ap (λ (none : Bool). if none then all_ones else A / B) (some_word some) ∙ ap₂ (λ (x y : ℕ). x / y) (whole_left e.1) (whole_right e.1)
        ∙ whole_result e.1 (a / b) (div-le_self a b) ∙ ap (extended w) is)
    | inr e ↦
        let narrow : w < 64 = narrow_of e.1 in
        ap (λ (whole : Bool). effect_of ((if whole then [] else rv.SLLI 5 5 (pos (64 - w)) ∷ rv.SLLI 6 6 (pos (64 - w)) ∷ []) ++ (rv.DIVU 5 5 6 ∷ (if whole then [] else rv.SLLI 5 5 (pos (64 - w)) ∷ rv.SRAI 5 5 (pos (64 - w)) ∷ []))) (two_in (Some A) (Some B)) 5) e.0
        ∙ ap Some (ap₂ (λ (x y : ℕ). shifted_signed (shifted_left (quotient_unsigned x y) (64 - w)) (64 - w)) (left_raised narrow) (right_raised narrow)
        ∙ ap (λ (none : Bool). shifted_signed (shifted_left (if none then all_ones else a * K / (b * K)) (64 - w)) (64 - w)) (some_top some)
        ∙ ap (λ (x : ℕ). shifted_signed (shifted_left x (64 - w)) (64 - w)) (mul-div-mul_right a b two.is.rest)
        ∙ cut_to w (a / b) two.is narrow
        ∙ ap (extended w) (mod-eq_of_lt (let e' : a / b < 2 ^ w = (let le : a / b ≤ a = div-le_self a b in omega (arith, two.left)) in e')) ∙ ap (extended w) is)
  ]
