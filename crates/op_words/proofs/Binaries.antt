-- The words of binary operations that cut their result to the width, and of those on bits.
use Rattle.std.proofs.Common.{◌≡◌, ◌≢◌, ◌≤◌, ◌<◌, ℕ, zero, suc, ◌+◌, ◌-◌, ◌*◌, ◌/◌, ◌%◌, ◌^◌, ◌==◌, ℤ, pos, negsuc, Bool, true, false, if◌then◌else◌, List, [], ◌∷◌, Option, Some, None, inl, inr, bit_and, bit_or, arith, refl, ap, ap₂, sym, ◌∙◌, subst}
use Rattle.std.specs.Prelude.{bit_xor, ◌||◌}
use Rattle.std.proofs.lemmas.Bool.{le-ltb, le-leb, cases_lt}
use Rattle.std.proofs.Math.Nat.{mod-lt, mod-eq_of_lt, pow-suc}
use Rattle.ir_tree.specs.declared.module.Bin.{Bin}
use Rattle.ir_tree.specs.declared.module.Bin.TheVariants.{Add, Sub, Mul, Shl, Udiv, Sdiv, Lshr, Ashr, Urem, Srem, And, Or, Xor}
use Rattle.ir_tree.specs.declared.module.Flags.{Flags}
use Rattle.ir_model.specs.Values.{Value, Integer, Poison, Answer, Gives}
use Rattle.ir_model.specs.Integers.{result_of, is_lost, is_far, computed}
use Rattle.ir_model.specs.Pointers.{extended}
use Rattle.rv_inst.specs.declared.instruction.Form.TheVariants as rv
use Rattle.rv_model.specs.State.{plus64}
use Rattle.rv_model.specs.Operations.{minus64, times64, shifted_left, word32}
use Rattle.flip_frames.specs.Views.{with_value}
use Rattle.flip_frames.specs.Computing.{effect_of}
use Rattle.flip_versions.specs.Operations.{Leaves}
use Rattle.op_words.specs.Words.{binary_words}
use Rattle.op_words.proofs.Powers.{Width, width}
use Rattle.op_words.proofs.Extended.{low_word, word_below, word_number}
use Rattle.op_words.proofs.LowBits.{within, sum_low, difference_low, product_low, shift_low}
use Rattle.op_words.proofs.Effects.{two_in, cut_effect}

-- ---- what an operation gives that isn't poison
pub record Kept (operation : Bin) (flags : Flags) (w a b v : ℕ) : Type 0 where
  pub kept : is_lost operation flags w a b ≡ false
  pub result : result_of operation w a b ≡ v

kept_by : (operation : Bin) (flags : Flags) (w a b v : ℕ) (lost : Bool) → is_lost operation flags w a b ≡ lost
    → Gives (if lost then Poison else Integer w (result_of operation w a b)) ≡ Gives (Integer w v) → Kept operation flags w a b v
kept_by operation flags w a b v true is gives = cc
kept_by operation flags w a b v false is gives = record { kept = is; result = grind arith }

pub kept_of : (operation : Bin) (flags : Flags) (w a b v : ℕ) → Gives (computed operation flags w a b) ≡ Gives (Integer w v) → Kept operation flags w a b v
kept_of operation flags w a b v gives = kept_by operation flags w a b v (is_lost operation flags w a b) refl gives

-- two numbers of a width
pub record Two (w a b : ℕ) : Type 0 where
  pub is : Width w
  pub left : a < 2 ^ w
  pub right : b < 2 ^ w

-- the word of a result
result_word : (w x v r : ℕ) → x % 2 ^ w ≡ r → r ≡ v → Some (extended w (x % 2 ^ w)) ≡ Some (extended w v)
result_word w x v r low is = ap (λ (n : ℕ). Some (extended w n)) (low ∙ is)

-- a width is no more than half its numbers
few_powers : (m : ℕ) → m < 2 ^ m
few_powers zero = omega arith
few_powers (suc m) = omega (arith, few_powers m, pow-suc 2 m)

-- a shift that isn't too far
pub not_far : (w b : ℕ) (more : Bool) → (is_far w b || more) ≡ false → b < w
not_far w b more none = elim (cases_lt b w) [
  | inl few ↦ few
  | inr far ↦ absurd (let e : is_far w b ≡ true = le-leb w b far in cc)
]

-- ---- sums, differences, products
module _ (w a b : ℕ) (two : Two w a b) where
  abbrev pub A : ℕ
  A = extended w a

  abbrev pub B : ℕ
  B = extended w b

  pub number_a : A % 2 ^ w ≡ a
  number_a = word_number w a two.is two.left

  pub number_b : B % 2 ^ w ≡ b
  number_b = word_number w b two.is two.right

  pub add_leaves : (v : ℕ) → result_of Add w a b ≡ v → Leaves (binary_words Add w) (Some A) (Some B) (Some (extended w v))
  unfolding with_value
  add_leaves v is =
      cut_effect w (rv.ADDW 5 5 6) (rv.ADD 5 5 6) (two_in (Some A) (Some B)) (plus64 A B) two.is (mod-lt (A + B) (omega arith)) (λ e. refl) refl
      ∙ result_word w (plus64 A B) v (result_of Add w a b) (sum_low w A B a b two.is number_a number_b) is

  pub sub_leaves : (v : ℕ) → result_of Sub w a b ≡ v → Leaves (binary_words Sub w) (Some A) (Some B) (Some (extended w v))
  unfolding with_value
  sub_leaves v is =
      cut_effect w (rv.SUBW 5 5 6) (rv.SUB 5 5 6) (two_in (Some A) (Some B)) (minus64 A B) two.is (mod-lt (A + (2 ^ 64 - B)) (omega arith)) (λ e. refl) refl
      ∙ result_word w (minus64 A B) v (result_of Sub w a b)
      (difference_low w A B a b two.is (word_below w b two.is two.right) number_a number_b) is

  pub mul_leaves : (v : ℕ) → result_of Mul w a b ≡ v → Leaves (binary_words Mul w) (Some A) (Some B) (Some (extended w v))
  unfolding with_value
  mul_leaves v is =
      cut_effect w (rv.MULW 5 5 6) (rv.MUL 5 5 6) (two_in (Some A) (Some B)) (times64 A B) two.is (mod-lt (A * B) (omega arith)) (λ e. refl) refl
      ∙ result_word w (times64 A B) v (result_of Mul w a b) (product_low w A B a b two.is number_a number_b) is

  -- ---- shifts to the left
  -- an amount below the width is its own word
  pub amount_word : b < w → B ≡ b
  amount_word few = low_word w b two.is (omega (arith, few_powers (w - 1), two.is.some))

  pub shl_leaves : (flags : Flags) (v : ℕ) → is_lost Shl flags w a b ≡ false → result_of Shl w a b ≡ v
      → Leaves (binary_words Shl w) (Some A) (Some B) (Some (extended w v))
  unfolding with_value
  shl_leaves flags v kept is =
      let few : b < w = not_far w b _ kept in
      let word : B ≡ b = amount_word few in
      let amount : B % 64 ≡ b = ap (λ (n : ℕ). n % 64) word ∙ mod-eq_of_lt (let e : b < 64 = omega (arith, two.is.most) in e) in
      cut_effect w (rv.SLLW 5 5 6) (rv.SLL 5 5 6) (two_in (Some A) (Some B)) (shifted_left A B) two.is (mod-lt (A * 2 ^ (B % 64)) (omega arith))
      (λ e. ap (λ (n : ℕ). Some (word32 (A * 2 ^ n % 2 ^ 64)))
      (ap (λ (n : ℕ). n % 32 % 64) word ∙ ap (λ (n : ℕ). n % 64) (mod-eq_of_lt (let e' : b < 32 = omega arith in e')) ∙ ap (λ (n : ℕ). n % 64) (sym word))) refl
      ∙ result_word w (shifted_left A B) v (result_of Shl w a b)
      (ap (λ (n : ℕ). A * 2 ^ n % 2 ^ 64 % 2 ^ w) amount ∙ shift_low w A a b two.is number_a) is
