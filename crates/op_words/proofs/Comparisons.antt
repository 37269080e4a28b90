-- The words of comparisons: values that are extended by their sign compare as the numbers do.
use Rattle.std.proofs.Common.{◌≡◌, ◌≢◌, ◌≤◌, ◌<◌, ℕ, zero, suc, ◌+◌, ◌-◌, ◌*◌, ◌%◌, ◌^◌, ◌==◌, ℤ, pos, negsuc, Bool, true, false, if◌then◌else◌, nat_lt, nat_le, List, [], ◌∷◌, Some, None, Option, inl, inr, arith, refl, ap, ap₂, sym, ◌∙◌, subst}
use Rattle.std.specs.Prelude.{not, int_lt, int_le}
use Rattle.std.proofs.lemmas.Bool.{lt-ltb, le-ltb, lt-leb, le-leb, cases_lt, ne_eqb}
use Rattle.std.proofs.lemmas.Bool.Decides.{nat_tests, eqb_tells}
use Rattle.std.proofs.Math.Nat.{mod-eq_of_lt}
use Rattle.ir_tree.specs.declared.module.Pred.{Pred}
use Rattle.ir_tree.specs.declared.module.Pred.TheVariants.{Eq, Ne, Ugt, Uge, Ult, Ule, Sgt, Sge, Slt, Sle}
use Rattle.ir_model.specs.Integers.{signed, holds}
use Rattle.ir_model.specs.Pointers.{extended}
use Rattle.rv_model.specs.Operations.{signed64, minus64, less_signed, truth}
use Rattle.flip_frames.specs.Views.{with_value}
use Rattle.flip_versions.specs.Operations.{Leaves}
use Rattle.op_words.specs.Words.{compare_words}
use Rattle.op_words.proofs.Powers.{Width}
use Rattle.op_words.proofs.Extended.{below_or, low_word, high_word, word_below, word_signed, word_number}
use Rattle.op_words.proofs.Binaries.{Two}

-- what a test is as an `i1`
abbrev pub bit : Bool → ℕ
bit test = if test then 1 else 0

made_true : (test : Bool) → minus64 0 (truth test) ≡ extended 1 (bit test)
made_true true = refl
made_true false = refl

made_opposite : (test : Bool) → (truth test + (2 ^ 64 - 1)) % 2 ^ 64 ≡ extended 1 (bit (not test))
made_opposite true = refl
made_opposite false = refl

-- ---- orders
word_less : (w a b : ℕ) → Two w a b → a < b → extended w a < extended w b
word_less w a b two lt = elim (below_or a (2 ^ (w - 1))) [
  | inl low ↦ elim (below_or b (2 ^ (w - 1))) [
    | inl small ↦ omega (arith, low_word w a two.is low, low_word w b two.is small)
    | inr large ↦ omega (arith, low_word w a two.is low, high_word w b two.is two.right large, two.is.whole, two.is.half)
  ]
  | inr high ↦
      let large : 2 ^ (w - 1) ≤ b = omega arith in
      omega (arith, high_word w a two.is two.left high, high_word w b two.is two.right large)
]

turned : (w a b : ℕ) → Two w a b → Two w b a
turned w a b two = record { is = two.is; left = two.right; right = two.left }

same_order : (w a b : ℕ) → Two w a b → nat_lt (extended w a) (extended w b) ≡ nat_lt a b
same_order w a b two = elim (cases_lt a b) [
  | inl lt ↦ lt-ltb (extended w a) (extended w b) (word_less w a b two lt) ∙ sym (lt-ltb a b lt)
  | inr le ↦
      le-ltb (extended w a) (extended w b) (no_less le) ∙ sym (le-ltb a b le)
]
  where
    no_less : b ≤ a → extended w b ≤ extended w a
    no_less le = elim (cases_lt b a) [
      | inl lt ↦ let less : extended w b < extended w a = word_less w b a (turned w a b two) lt in omega arith
      | inr other ↦ let same : extended w b ≡ extended w a = ap (extended w) (let e : b ≡ a = omega arith in e) in omega arith
    ]

same_signed_order : (w a b : ℕ) → Two w a b → less_signed (extended w a) (extended w b) ≡ int_lt (signed w a) (signed w b)
same_signed_order w a b two = ap₂ int_lt (word_signed w a two.is two.left) (word_signed w b two.is two.right)

not_less : (a b : ℕ) → not (nat_lt a b) ≡ nat_le b a
not_less a b = elim (cases_lt a b) [
  | inl lt ↦ ap not (lt-ltb a b lt) ∙ sym (lt-leb b a lt)
  | inr le ↦ ap not (le-ltb a b le) ∙ sym (le-leb b a le)
]

not_less_signed : (x y : ℤ) → not (int_lt x y) ≡ int_le y x
not_less_signed (pos a) (pos b) = not_less a b
not_less_signed (pos a) (negsuc b) = refl
not_less_signed (negsuc a) (pos b) = refl
not_less_signed (negsuc a) (negsuc b) = not_less b a

-- ---- equality: two words are the same where their difference is zero
no_difference : (x y : ℕ) → x < 2 ^ 64 → y < 2 ^ 64 → x ≢ y → nat_lt 0 (minus64 x y) ≡ true
no_difference x y lx ly other = elim (cases_lt x y) [
  | inl lt ↦
      lt-ltb 0 (minus64 x y) (let e : (x + (2 ^ 64 - y)) % 2 ^ 64 ≡ x + (2 ^ 64 - y) = mod-eq_of_lt (let small : x + (2 ^ 64 - y) < 2 ^ 64 = omega arith in small) in omega arith)
  | inr le ↦ lt-ltb 0 (minus64 x y) (let e : x + (2 ^ 64 - y) ≡ 2 ^ 64 + (x - y) = omega arith in let some : 0 < x - y = omega (arith, other) in omega arith)
]

same_word : (w a b : ℕ) → Two w a b → nat_lt 0 (minus64 (extended w a) (extended w b)) ≡ not (a == b)
same_word w a b two = elim (eqb_tells a b) [
  | inl e ↦
      ap (λ (n : ℕ). nat_lt 0 (minus64 n (extended w b))) (ap (extended w) e.1) ∙ le-ltb 0 (minus64 (extended w b) (extended w b)) (none (extended w b) (word_below w b two.is two.right)) ∙ ap not (sym e.0)
  | inr e ↦
      no_difference (extended w a) (extended w b) (word_below w a two.is two.left) (word_below w b two.is two.right)
      (λ same. e.1 (sym (word_number w a two.is two.left) ∙ ap (λ (n : ℕ). n % 2 ^ w) same ∙ word_number w b two.is two.right)) ∙ ap not (sym e.0)
]
  where
    none : (x : ℕ) → x < 2 ^ 64 → minus64 x x ≤ 0
    none x lt = let e : x + (2 ^ 64 - x) ≡ 2 ^ 64 = omega arith in let m : (x + (2 ^ 64 - x)) % 2 ^ 64 ≡ 0 = ap (λ (n : ℕ). n % 2 ^ 64) e in omega arith

not_not : (b : Bool) → not (not b) ≡ b
not_not true = refl
not_not false = refl

-- ---- all of them
pub compare_leaves : (predicate : Pred) (w a b : ℕ) → Two w a b
    → Leaves (compare_words predicate) (Some (extended w a)) (Some (extended w b)) (Some (extended 1 (bit (holds predicate w a b))))
unfolding with_value
compare_leaves Eq w a b two =
    ap Some (made_opposite _ ∙ ap (λ (t : Bool). extended 1 (bit (not t))) (same_word w a b two) ∙ ap (λ (t : Bool). extended 1 (bit t)) (not_not (a == b)))
compare_leaves Ne w a b two = ap Some (made_true _ ∙ ap (λ (t : Bool). extended 1 (bit t)) (same_word w a b two))
compare_leaves Ugt w a b two = ap Some (made_true _ ∙ ap (λ (t : Bool). extended 1 (bit t)) (same_order w b a (turned w a b two)))
compare_leaves Uge w a b two =
    ap Some (made_opposite _ ∙ ap (λ (t : Bool). extended 1 (bit (not t))) (same_order w a b two) ∙ ap (λ (t : Bool). extended 1 (bit t)) (not_less a b))
compare_leaves Ult w a b two = ap Some (made_true _ ∙ ap (λ (t : Bool). extended 1 (bit t)) (same_order w a b two))
compare_leaves Ule w a b two =
    ap Some (made_opposite _ ∙ ap (λ (t : Bool). extended 1 (bit (not t))) (same_order w b a (turned w a b two)) ∙ ap (λ (t : Bool). extended 1 (bit t)) (not_less b a))
compare_leaves Sgt w a b two = ap Some (made_true _ ∙ ap (λ (t : Bool). extended 1 (bit t)) (same_signed_order w b a (turned w a b two)))
compare_leaves Sge w a b two =
    ap Some (made_opposite _ ∙ ap (λ (t : Bool). extended 1 (bit (not t))) (same_signed_order w a b two)
    ∙ ap (λ (t : Bool). extended 1 (bit t)) (not_less_signed (signed w a) (signed w b)))
compare_leaves Slt w a b two = ap Some (made_true _ ∙ ap (λ (t : Bool). extended 1 (bit t)) (same_signed_order w a b two))
compare_leaves Sle w a b two =
    ap Some (made_opposite _ ∙ ap (λ (t : Bool). extended 1 (bit (not t))) (same_signed_order w b a (turned w a b two))
    ∙ ap (λ (t : Bool). extended 1 (bit t)) (not_less_signed (signed w b) (signed w a)))
