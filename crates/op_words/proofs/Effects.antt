-- What lists of words leave in x5, from what x5 and x6 hold.
use Rattle.std.proofs.Common.{◌≡◌, ◌≤◌, ◌<◌, ℕ, zero, suc, ◌+◌, ◌-◌, ◌*◌, ◌/◌, ◌%◌, ◌^◌, ◌==◌, ℤ, pos, negsuc, Bool, true, false, if◌then◌else◌, List, [], ◌∷◌, ◌++◌, Option, Some, None, inl, inr, arith, refl, ap, sym, ◌∙◌, subst}
use Rattle.std.proofs.lemmas.Bool.Decides.{eqb_tells}
use Rattle.std.proofs.Math.Nat.{mod-lt, mod-eq_of_lt}
use Rattle.rv_inst.specs.declared.instruction.Form.{Form}
use Rattle.rv_inst.specs.declared.instruction.Form.TheVariants as rv
use Rattle.rv_model.specs.Operations.{bits64, shifted_left, shifted_right, shifted_signed, word32}
use Rattle.flip_frames.specs.Views.{with_value, no_values}
use Rattle.flip_frames.specs.Computing.{effect_of, computed, of_both}
use Rattle.ir_model.specs.Pointers.{extended}
use Rattle.op_words.specs.Words.{narrowed, cut, raised, both_raised, lowered}
use Rattle.op_words.proofs.Powers.{Width}
use Rattle.op_words.proofs.Extended.{below_or, low_word, high_word, as_machine}
use Rattle.op_words.proofs.Shifts.{cut_to}

-- the values in x5 and x6
abbrev pub File : Type 0
File = ℕ → Option ℕ

pub joined : (xs ys : List Form) (file : File) → effect_of (xs ++ ys) file ≡ effect_of ys (effect_of xs file)
joined [] ys file = refl
joined (x ∷ xs) ys file = joined xs ys _

-- words that start from values in x5 and x6
abbrev pub two_in : Option ℕ → Option ℕ → File
two_in o p = with_value (with_value no_values 5 o) 6 p

-- ---- cut to a width
pub whole_word : (x : ℕ) → Width 64 → x < 2 ^ 64 → extended 64 (x % 2 ^ 64) ≡ x
whole_word x is lt = elim (below_or x (2 ^ 63)) [
  | inl low ↦ ap (extended 64) (mod-eq_of_lt lt) ∙ low_word 64 x is low
  | inr high ↦ ap (extended 64) (mod-eq_of_lt lt) ∙ high_word 64 x is lt high ∙ (let e : x + (2 ^ 64 - 2 ^ 64) ≡ x = omega arith in e)
]

up_and_down : (w : ℕ) (file : File) (x : ℕ) → file 5 ≡ Some x
    → effect_of (rv.SLLI 5 5 (pos (64 - w)) ∷ rv.SRAI 5 5 (pos (64 - w)) ∷ []) file 5 ≡ Some (shifted_signed (shifted_left x (64 - w)) (64 - w))
unfolding with_value
up_and_down w file x is = ap (λ (o : Option ℕ). of_both shifted_signed (of_both shifted_left o (Some (64 - w))) (Some (64 - w))) is

pub narrowed_effect : (w : ℕ) (file : File) (x : ℕ) → Width w → x < 2 ^ 64 → file 5 ≡ Some x → effect_of (narrowed w) file 5 ≡ Some (extended w (x % 2 ^ w))
narrowed_effect w file x is lt at = elim (eqb_tells w 64) [
  | inl e ↦
      ap (λ (b : Bool). effect_of (if b then [] else rv.SLLI 5 5 (pos (64 - w)) ∷ rv.SRAI 5 5 (pos (64 - w)) ∷ []) file 5) e.0 ∙ at
      ∙ ap Some (subst (λ (v : ℕ). x ≡ extended v (x % 2 ^ v)) (sym e.1) (sym (whole_word x (subst Width e.1 is) lt)))
  | inr e ↦
      ap (λ (b : Bool). effect_of (if b then [] else rv.SLLI 5 5 (pos (64 - w)) ∷ rv.SRAI 5 5 (pos (64 - w)) ∷ []) file 5) e.0
      ∙ up_and_down w file x at ∙ ap Some (cut_to w x is (let lt : w < 64 = omega (arith, is.most, e.1) in lt))
]

-- an operation whose low bits count: of 32 bits by one word
pub cut_effect : (w : ℕ) (short whole : Form) (file : File) (x : ℕ) → Width w → x < 2 ^ 64 → (w ≡ 32 → effect_of (short ∷ []) file 5 ≡ Some (word32 x))
    → effect_of (whole ∷ []) file 5 ≡ Some x → effect_of (cut w short whole) file 5 ≡ Some (extended w (x % 2 ^ w))
cut_effect w short whole file x is lt one other = elim (eqb_tells w 32) [
  | inl e ↦
      ap (λ (b : Bool). effect_of (if b then short ∷ [] else whole ∷ narrowed w) file 5) e.0 ∙ one e.1
      ∙ ap Some (subst (λ (v : ℕ). word32 x ≡ extended v (x % 2 ^ v)) (sym e.1) (as_machine 32 (x % 2 ^ 32) (subst Width e.1 is) (mod-lt x (omega arith))))
  | inr e ↦
      ap (λ (b : Bool). effect_of (if b then short ∷ [] else whole ∷ narrowed w) file 5) e.0
      ∙ narrowed_effect w (effect_of (whole ∷ []) file) x is lt other
]
