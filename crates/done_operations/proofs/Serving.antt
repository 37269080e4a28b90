-- The words of an operation serve it: where it gives a value that has a word, they leave that word.
use Rattle.std.proofs.Common.{◌≡◌, ◌≤◌, ◌<◌, ◌+◌, ◌%◌, ◌==◌, ◌^◌, ℕ, Bool, true, false, if◌then◌else◌, List, [], ◌∷◌, Option, Some, None, refl, sym, ap, subst, ◌∙◌, arith}
use Rattle.std.proofs.lemmas.Option.{same_Some, none-some}
use Rattle.ir_tree.specs.declared.module.Bin.{Bin}
use Rattle.ir_tree.specs.declared.module.Bin.TheVariants.{Add, Sub, Mul, Shl, Udiv, Sdiv, Lshr, Ashr, Urem, Srem, And, Or, Xor}
use Rattle.ir_tree.specs.declared.module.Flags.{Flags}
use Rattle.ir_tree.specs.declared.module.Pred.{Pred}
use Rattle.ir_tree.specs.declared.module.Conv.{Conv}
use Rattle.ir_model.specs.declared.Why.TheVariants as why
use Rattle.ir_model.specs.Values.{Value, Integer, Address, Poison, MemoryBlock, Answer, Gives, Fails}
use Rattle.ir_model.specs.Integers.{signed, binary, holds, truth, converted}
use Rattle.ir_model.specs.Pointers.{extended}
use Rattle.ir_model.specs.Operations.{Binary, Compare, Convert, Freeze, compute}
use Rattle.ir_typed_runs.specs.Kinds.{OfWidth, HasWidth, IsOfKind, Converts, Answers}
use Rattle.ir_typed_runs.proofs.Numbers.{bits_below}
use Rattle.ir_typed_runs.proofs.Computed.{compute_kind}
use Rattle.flip_frames.specs.Views.{with_value}
use Rattle.flip_versions.specs.Operations.{Leaves}
use Rattle.op_words.specs.Words.{binary_words, compare_words, convert_words}
use Rattle.op_words.proofs.Answered.{binaries, comparisons, conversions}
use Rattle.kept_states.specs.Kept.{word_of}

-- words serve two values: for what is known of them, and whatever stands for what isn't, they leave the word of what they give
abbrev pub Serve : (ℕ → ℕ) → Answer → Value → Value → (Option ℕ → Option ℕ → Option ℕ → Type 0) → Type 0
Serve address answer x y Leave = (v : Value) (w : ℕ) (o1 o2 : Option ℕ) → answer ≡ Gives v → word_of address v ≡ Some w
    → ((u : ℕ) → word_of address x ≡ Some u → o1 ≡ Some u) → ((u : ℕ) → word_of address y ≡ Some u → o2 ≡ Some u) → Leave o1 o2 (Some w)

-- the word of a value is one of 64 bits
pub word_small : (address : ℕ → ℕ) (v : Value) (w : ℕ) → word_of address v ≡ Some w → w < 2 ^ 64
word_small address (Integer width n) w is = subst (λ (u : ℕ). u < 2 ^ 64) (same_Some (extended width n) w is) (bits_below 64 (signed width n))
word_small address (Address q) w is =
    subst (λ (u : ℕ). u < 2 ^ 64) (same_Some ((address q.block + q.offset) % 2 ^ 64) w is) (let lt : (address q.block + q.offset) % 2 ^ 64 < 2 ^ 64 = omega arith in lt)
word_small address Poison w is = cc

-- ---- poison
gives_same : (v w : Value) → Gives v ≡ Gives w → v ≡ w
gives_same v w e = grind arith

after_test : (test : Bool) (v : Value) → (if test then Fails why.Divide else Gives Poison) ≡ Gives v → v ≡ Poison
after_test true v e = cc
after_test false v e = sym (gives_same Poison v e)

-- what is made of poison is poison, if it is anything
first_poison : (operation : Bin) (flags : Flags) (width : ℕ) (y v : Value) → binary operation flags width Poison y ≡ Gives v → v ≡ Poison
first_poison Add flags width y v e = sym (gives_same Poison v e)
first_poison Sub flags width y v e = sym (gives_same Poison v e)
first_poison Mul flags width y v e = sym (gives_same Poison v e)
first_poison Shl flags width y v e = sym (gives_same Poison v e)
first_poison Udiv flags width (Integer w b) v e = after_test (b == 0) v e
first_poison Udiv flags width (Address q) v e = cc
first_poison Udiv flags width Poison v e = cc
first_poison Sdiv flags width (Integer w b) v e = after_test (b == 0) v e
first_poison Sdiv flags width (Address q) v e = cc
first_poison Sdiv flags width Poison v e = cc
first_poison Lshr flags width y v e = sym (gives_same Poison v e)
first_poison Ashr flags width y v e = sym (gives_same Poison v e)
first_poison Urem flags width (Integer w b) v e = after_test (b == 0) v e
first_poison Urem flags width (Address q) v e = cc
first_poison Urem flags width Poison v e = cc
first_poison Srem flags width (Integer w b) v e = after_test (b == 0) v e
first_poison Srem flags width (Address q) v e = cc
first_poison Srem flags width Poison v e = cc
first_poison And flags width y v e = sym (gives_same Poison v e)
first_poison Or flags width y v e = sym (gives_same Poison v e)
first_poison Xor flags width y v e = sym (gives_same Poison v e)

second_poison : (operation : Bin) (flags : Flags) (width w a : ℕ) (v : Value) → binary operation flags width (Integer w a) Poison ≡ Gives v → v ≡ Poison
second_poison Add flags width w a v e = sym (gives_same Poison v e)
second_poison Sub flags width w a v e = sym (gives_same Poison v e)
second_poison Mul flags width w a v e = sym (gives_same Poison v e)
second_poison Shl flags width w a v e = sym (gives_same Poison v e)
second_poison Udiv flags width w a v e = cc
second_poison Sdiv flags width w a v e = cc
second_poison Lshr flags width w a v e = sym (gives_same Poison v e)
second_poison Ashr flags width w a v e = sym (gives_same Poison v e)
second_poison Urem flags width w a v e = cc
second_poison Srem flags width w a v e = cc
second_poison And flags width w a v e = sym (gives_same Poison v e)
second_poison Or flags width w a v e = sym (gives_same Poison v e)
second_poison Xor flags width w a v e = sym (gives_same Poison v e)

no_word : (address : ℕ → ℕ) (v : Value) (w : ℕ) (P : Type 0) → v ≡ Poison → word_of address v ≡ Some w → P
no_word address v w P is word = absurd (none-some w (sym (ap (word_of address) is) ∙ word))

-- ---- binary operations
-- of numbers of the width
numbers : (address : ℕ → ℕ) (blocks : ℕ) (operation : Bin) (flags : Flags) (width a b : ℕ) (v : Value) (w : ℕ) → HasWidth (OfWidth width) → a < 2 ^ width → b < 2 ^ width
    → binary operation flags width (Integer width a) (Integer width b) ≡ Gives v → IsOfKind blocks (OfWidth width) v → word_of address v ≡ Some w
    → Leaves (binary_words operation width) (Some (extended width a)) (Some (extended width b)) (Some w)
numbers address blocks operation flags width a b (Integer u r) w wide la lb gives is word =
    binaries operation flags width a b r wide.0 wide.1 la lb (gives ∙ ap (λ (k : ℕ). Gives (Integer k r)) is.0)
    ∙ ap (λ (k : ℕ). Some (extended k r)) (sym is.0) ∙ word
numbers address blocks operation flags width a b (Address q) w wide la lb gives is word = absurd is
numbers address blocks operation flags width a b Poison w wide la lb gives is word = absurd (none-some w word)

module _ (address : ℕ → ℕ) (blocks : ℕ) (memory : List MemoryBlock) (operation : Bin) (flags : Flags) (width : ℕ) (wide : HasWidth (OfWidth width)) where
  kind_given : (x y v : Value) → IsOfKind blocks (OfWidth width) x → IsOfKind blocks (OfWidth width) y
      → compute (Binary operation flags width) memory (x ∷ y ∷ []) ≡ Gives v → IsOfKind blocks (OfWidth width) v
  kind_given x y v hx hy gives =
      subst (Answers blocks (OfWidth width)) gives
      (compute_kind blocks (Binary operation flags width) (OfWidth width ∷ OfWidth width ∷ []) (OfWidth width) memory (x ∷ y ∷ []) (refl, refl) (hx, (hy, tt)))

  pub binary_serves : (x y : Value) → IsOfKind blocks (OfWidth width) x → IsOfKind blocks (OfWidth width) y
      → Serve address (compute (Binary operation flags width) memory (x ∷ y ∷ [])) x y (Leaves (binary_words operation width))
  unfolding compute
  binary_serves (Address q) y hx hy v w o1 o2 gives word first second = absurd hx
  binary_serves Poison y hx hy v w o1 o2 gives word first second =
      no_word address v w (Leaves (binary_words operation width) o1 o2 (Some w)) (first_poison operation flags width y v gives) word
  binary_serves (Integer u a) (Address q) hx hy v w o1 o2 gives word first second = absurd hy
  binary_serves (Integer u a) Poison hx hy v w o1 o2 gives word first second =
      no_word address v w (Leaves (binary_words operation width) o1 o2 (Some w)) (second_poison operation flags width u a v gives) word
  binary_serves (Integer u a) (Integer k b) hx hy v w o1 o2 gives word first second =
      let kind : IsOfKind blocks (OfWidth width) v = kind_given (Integer u a) (Integer k b) v hx hy gives in
      let same : binary operation flags width (Integer width a) (Integer width b) ≡ Gives v =
      ap (λ (n : ℕ). binary operation flags width (Integer n a) (Integer width b)) (sym hx.0)
      ∙ ap (λ (n : ℕ). binary operation flags width (Integer u a) (Integer n b)) (sym hy.0) ∙ gives in
      subst (λ (o : Option ℕ). Leaves (binary_words operation width) o o2 (Some w)) (sym (first (extended width a) (ap (λ (n : ℕ). Some (extended n a)) hx.0)))
      (subst (λ (o : Option ℕ). Leaves (binary_words operation width) (Some (extended width a)) o (Some w)) (sym (second (extended width b) (ap (λ (n : ℕ). Some (extended n b)) hy.0)))
      (numbers address blocks operation flags width a b v w wide hx.1 hy.1 same kind word))

-- ---- comparisons
truth_word : (address : ℕ → ℕ) (test : Bool) (v : Value) (w : ℕ) → Gives (truth test) ≡ Gives v → word_of address v ≡ Some w
    → (n : ℕ) × (truth test ≡ Integer 1 n) × (extended 1 n ≡ w)
truth_word address test v w gives word =
    (if test then 1 else 0, refl, same_Some _ w (ap (word_of address) (gives_same (truth test) v gives) ∙ word))

module _ (address : ℕ → ℕ) (blocks : ℕ) (memory : List MemoryBlock) (predicate : Pred) (width : ℕ) (wide : HasWidth (OfWidth width)) where
  pub comparison_serves : (x y : Value) → IsOfKind blocks (OfWidth width) x → IsOfKind blocks (OfWidth width) y
      → Serve address (compute (Compare predicate) memory (x ∷ y ∷ [])) x y (Leaves (compare_words predicate))
  unfolding compute
  comparison_serves (Address q) y hx hy v w o1 o2 gives word first second = absurd hx
  comparison_serves Poison y hx hy v w o1 o2 gives word first second =
      no_word address v w (Leaves (compare_words predicate) o1 o2 (Some w)) (sym (gives_same Poison v gives)) word
  comparison_serves (Integer u a) (Address q) hx hy v w o1 o2 gives word first second = absurd hy
  comparison_serves (Integer u a) Poison hx hy v w o1 o2 gives word first second =
      no_word address v w (Leaves (compare_words predicate) o1 o2 (Some w)) (sym (gives_same Poison v gives)) word
  comparison_serves (Integer u a) (Integer k b) hx hy v w o1 o2 gives word first second =
      let same : Gives (truth (holds predicate width a b)) ≡ Gives v = ap (λ (n : ℕ). Gives (truth (holds predicate n a b))) (sym hx.0) ∙ gives in
      let is = truth_word address (holds predicate width a b) v w same word in
      subst (λ (o : Option ℕ). Leaves (compare_words predicate) o o2 (Some w)) (sym (first (extended width a) (ap (λ (n : ℕ). Some (extended n a)) hx.0)))
      (subst (λ (o : Option ℕ). Leaves (compare_words predicate) (Some (extended width a)) o (Some w)) (sym (second (extended width b) (ap (λ (n : ℕ). Some (extended n b)) hy.0)))
      (comparisons predicate width a b is.0 wide.0 wide.1 hx.1 hy.1 is.1 ∙ ap Some is.2))

-- ---- conversions and `freeze`
-- words serve one value
abbrev pub ServeOne : (ℕ → ℕ) → Answer → Value → (Option ℕ → Option ℕ → Type 0) → Type 0
ServeOne address answer x Leave = (v : Value) (w : ℕ) (o : Option ℕ) → answer ≡ Gives v → word_of address v ≡ Some w
    → ((u : ℕ) → word_of address x ≡ Some u → o ≡ Some u) → Leave o (Some w)

module _ (address : ℕ → ℕ) (blocks : ℕ) (memory : List MemoryBlock) where
  pub conversion_serves : (conversion : Conv) (width to : ℕ) → HasWidth (OfWidth width) → HasWidth (OfWidth to) → Converts conversion width to → (x : Value)
      → IsOfKind blocks (OfWidth width) x
      → ServeOne address (compute (Convert conversion width to) memory (x ∷ [])) x (λ o r. Leaves (convert_words conversion width to) o None r)
  unfolding compute
  conversion_serves conversion width to wide fits leads (Address q) hx v w o gives word right = absurd hx
  conversion_serves conversion width to wide fits leads Poison hx v w o gives word right =
      no_word address v w (Leaves (convert_words conversion width to) o None (Some w)) (sym (gives_same Poison v gives)) word
  conversion_serves conversion width to wide fits leads (Integer u n) hx v w o gives word right =
      subst (λ (q : Option ℕ). Leaves (convert_words conversion width to) q None (Some w)) (sym (right (extended width n) (ap (λ (k : ℕ). Some (extended k n)) hx.0)))
      (conversions conversion width to n wide.0 wide.1 fits.0 fits.1 leads hx.1
      ∙ ap (word_of address) (gives_same (Integer to (converted conversion width to n)) v gives) ∙ word)

  pub freeze_serves : (x : Value) → ServeOne address (compute Freeze memory (x ∷ [])) x (λ o r. Leaves [] o None r)
  unfolding compute with_value
  freeze_serves (Integer u n) v w o gives word right = right w (ap (word_of address) (gives_same (Integer u n) v gives) ∙ word)
  freeze_serves (Address q) v w o gives word right = right w (ap (word_of address) (gives_same (Address q) v gives) ∙ word)
  freeze_serves Poison v w o gives word right = cc
