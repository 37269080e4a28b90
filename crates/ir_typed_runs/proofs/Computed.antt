-- What an operation gives is of its kind.
use Rattle.std.specs.Prelude.{◌≡◌, ◌<◌, ℕ, ◌+◌, ◌^◌, ◌==◌, ◌&&◌, not, Bool, true, false, if◌then◌else◌, List, [], ◌∷◌, drop, Option, Some, None}
use Rattle.std.specs.List.{AllZip}
use Rattle.std.proofs.Common.{arith, refl, subst, sym}
use Rattle.std.proofs.Math.Nat.{mod-lt}
use Rattle.ir_tree.specs.declared.module.Bin.{Bin}
use Rattle.ir_tree.specs.declared.module.Bin.TheVariants.{Add, Sub, Mul, Shl, Udiv, Sdiv, Lshr, Ashr, Urem, Srem, And, Or, Xor}
use Rattle.ir_tree.specs.declared.module.Flags.{Flags}
use Rattle.ir_tree.specs.declared.module.Pred.{Pred}
use Rattle.ir_tree.specs.declared.module.Pred.TheVariants.{Eq, Ne, Ugt, Uge, Ult, Ule, Sgt, Sge, Slt, Sle}
use Rattle.ir_tree.specs.declared.module.Conv.{Conv}
use Rattle.ir_model.specs.declared.Why.TheVariants as why
use Rattle.ir_model.specs.Values.{Pointer, Value, Integer, Address, Poison, MemoryBlock, Answer, Gives, Fails}
use Rattle.ir_model.specs.Integers.{result_of, is_lost, computed, combined, has_no_quotient, divided_by, divided, binary, holds, truth}
use Rattle.ir_model.specs.Pointers.{Stride, is_in_block, is_told_apart, compared_apart, compared, distance, moved, stepped_if, walked}
use Rattle.ir_model.specs.Operations.{Operation, Binary, Compare, Select, Convert, Freeze, Walk, operand, compare, chosen, resized, frozen, compute}
use Rattle.ir_typed_runs.specs.Kinds.{Kind, OfWidth, OfPointer, IsPointer, IsOfKind, Converts, HasKinds, index_kinds, Answers}
use Rattle.ir_typed_runs.proofs.Lists.{if_holds}
use Rattle.ir_typed_runs.proofs.Numbers.{result_below, converted_below}

module _ (blocks : ℕ) where
  computed_kind : (operation : Bin) (flags : Flags) (width a b : ℕ) → a < 2 ^ width → b < 2 ^ width
      → IsOfKind blocks (OfWidth width) (computed operation flags width a b)
  computed_kind operation flags width a b la lb =
      if_holds (IsOfKind blocks (OfWidth width)) (is_lost operation flags width a b) Poison (Integer width (result_of operation width a b)) tt
      (refl, result_below operation width a b la lb)

  combined_kind : (operation : Bin) (flags : Flags) (width : ℕ) (x y : Value) → IsOfKind blocks (OfWidth width) x → IsOfKind blocks (OfWidth width) y
      → Answers blocks (OfWidth width) (combined operation flags width x y)
  combined_kind operation flags width (Integer w a) (Integer u b) hx hy = computed_kind operation flags width a b hx.1 hy.1
  combined_kind operation flags width (Integer w a) (Address q) hx hy = tt
  combined_kind operation flags width (Integer w a) Poison hx hy = tt
  combined_kind operation flags width (Address q) y hx hy = tt
  combined_kind operation flags width Poison y hx hy = tt

  divided_by_kind : (operation : Bin) (flags : Flags) (width : ℕ) (x : Value) (b : ℕ) → IsOfKind blocks (OfWidth width) x → b < 2 ^ width
      → Answers blocks (OfWidth width) (divided_by operation flags width x b)
  divided_by_kind operation flags width (Integer w a) b hx lb =
      if_holds (Answers blocks (OfWidth width)) (has_no_quotient operation width a b) (Fails why.Divide) (Gives (computed operation flags width a b)) tt
      (computed_kind operation flags width a b hx.1 lb)
  divided_by_kind operation flags width (Address q) b hx lb = tt
  divided_by_kind operation flags width Poison b hx lb = tt

  divided_kind : (operation : Bin) (flags : Flags) (width : ℕ) (x y : Value) → IsOfKind blocks (OfWidth width) x → IsOfKind blocks (OfWidth width) y
      → Answers blocks (OfWidth width) (divided operation flags width x y)
  divided_kind operation flags width x (Integer w b) hx hy =
      if_holds (Answers blocks (OfWidth width)) (b == 0) (Fails why.Divide) (divided_by operation flags width x b) tt
      (divided_by_kind operation flags width x b hx hy.1)
  divided_kind operation flags width x (Address q) hx hy = tt
  divided_kind operation flags width x Poison hx hy = tt

  binary_kind : (operation : Bin) (flags : Flags) (width : ℕ) (x y : Value) → IsOfKind blocks (OfWidth width) x → IsOfKind blocks (OfWidth width) y
      → Answers blocks (OfWidth width) (binary operation flags width x y)
  binary_kind Add flags width x y hx hy = combined_kind Add flags width x y hx hy
  binary_kind Sub flags width x y hx hy = combined_kind Sub flags width x y hx hy
  binary_kind Mul flags width x y hx hy = combined_kind Mul flags width x y hx hy
  binary_kind Shl flags width x y hx hy = combined_kind Shl flags width x y hx hy
  binary_kind Udiv flags width x y hx hy = divided_kind Udiv flags width x y hx hy
  binary_kind Sdiv flags width x y hx hy = divided_kind Sdiv flags width x y hx hy
  binary_kind Lshr flags width x y hx hy = combined_kind Lshr flags width x y hx hy
  binary_kind Ashr flags width x y hx hy = combined_kind Ashr flags width x y hx hy
  binary_kind Urem flags width x y hx hy = divided_kind Urem flags width x y hx hy
  binary_kind Srem flags width x y hx hy = divided_kind Srem flags width x y hx hy
  binary_kind And flags width x y hx hy = combined_kind And flags width x y hx hy
  binary_kind Or flags width x y hx hy = combined_kind Or flags width x y hx hy
  binary_kind Xor flags width x y hx hy = combined_kind Xor flags width x y hx hy

  truth_kind : (test : Bool) → IsOfKind blocks (OfWidth 1) (truth test)
  truth_kind true = (refl, omega arith)
  truth_kind false = (refl, omega arith)

  apart_kind : (predicate : Pred) → Answers blocks (OfWidth 1) (compared_apart predicate)
  apart_kind Eq = (refl, omega arith)
  apart_kind Ne = (refl, omega arith)
  apart_kind Ugt = tt
  apart_kind Uge = tt
  apart_kind Ult = tt
  apart_kind Ule = tt
  apart_kind Sgt = tt
  apart_kind Sge = tt
  apart_kind Slt = tt
  apart_kind Sle = tt

  pointers_kind : (predicate : Pred) (memory : List MemoryBlock) (x y : Pointer) → Answers blocks (OfWidth 1) (compared predicate memory x y)
  pointers_kind predicate memory x y =
      let P : Answer → Type 0 = Answers blocks (OfWidth 1) in
      let near : Answer = if is_in_block memory x && is_in_block memory y then Gives (truth (holds predicate 64 x.offset y.offset)) else Fails why.Compare in
      let far : Answer = if is_told_apart memory x && is_told_apart memory y then compared_apart predicate else Fails why.Compare in
      if_holds P (x.block == y.block) near far
      (if_holds P (is_in_block memory x && is_in_block memory y) (Gives (truth (holds predicate 64 x.offset y.offset))) (Fails why.Compare)
      (truth_kind (holds predicate 64 x.offset y.offset)) tt)
      (if_holds P (is_told_apart memory x && is_told_apart memory y) (compared_apart predicate) (Fails why.Compare) (apart_kind predicate) tt)

  compare_kind : (predicate : Pred) (memory : List MemoryBlock) (x y : Value) → Answers blocks (OfWidth 1) (compare predicate memory x y)
  compare_kind predicate memory (Integer w a) (Integer u b) = truth_kind (holds predicate w a b)
  compare_kind predicate memory (Integer w a) (Address q) = tt
  compare_kind predicate memory (Integer w a) Poison = tt
  compare_kind predicate memory (Address r) (Integer u b) = tt
  compare_kind predicate memory (Address r) (Address q) = pointers_kind predicate memory r q
  compare_kind predicate memory (Address r) Poison = tt
  compare_kind predicate memory Poison y = tt

  chosen_kind : (kind : Kind) (c x y : Value) → IsOfKind blocks kind x → IsOfKind blocks kind y → IsOfKind blocks kind (chosen c x y)
  chosen_kind kind (Integer w n) x y hx hy = if_holds (IsOfKind blocks kind) (n == 0) y x hy hx
  chosen_kind kind (Address q) x y hx hy = tt
  chosen_kind kind Poison x y hx hy = tt

  resized_kind : (conversion : Conv) (from to : ℕ) (x : Value) → Converts conversion from to → IsOfKind blocks (OfWidth from) x
      → IsOfKind blocks (OfWidth to) (resized conversion from to x)
  resized_kind conversion from to (Integer w n) leads hx = (refl, converted_below conversion from to n leads hx.1)
  resized_kind conversion from to (Address q) leads hx = tt
  resized_kind conversion from to Poison leads hx = tt

  frozen_kind : (kind : Kind) (x : Value) → IsOfKind blocks kind x → Answers blocks kind (frozen x)
  frozen_kind kind (Integer w n) hx = hx
  frozen_kind kind (Address q) hx = hx
  frozen_kind kind Poison hx = tt

  stepped_kind : (inbounds : Bool) (memory : List MemoryBlock) (q : Pointer) (far : Option ℕ) → IsPointer blocks q
      → IsOfKind blocks OfPointer (stepped_if inbounds memory q far)
  stepped_kind inbounds memory q None is = tt
  stepped_kind inbounds memory q (Some far) is =
      if_holds (IsOfKind blocks OfPointer) (inbounds && not (is_in_block memory q && is_in_block memory (moved q far))) Poison (Address (moved q far)) tt
      (record { exists = is.exists; distance = mod-lt (q.offset + far) (omega arith) })

  pub walked_kind : (inbounds : Bool) (strides : List Stride) (memory : List MemoryBlock) (base : Value) (indices : List Value)
      → IsOfKind blocks OfPointer base → IsOfKind blocks OfPointer (walked inbounds strides memory base indices)
  walked_kind inbounds [] memory base indices hb = hb
  walked_kind inbounds (x ∷ xs) memory (Integer w n) indices hb = tt
  walked_kind inbounds (x ∷ xs) memory (Address q) indices hb = stepped_kind inbounds memory q (distance (x ∷ xs) indices) hb
  walked_kind inbounds (x ∷ xs) memory Poison indices hb = tt

  -- the first operands of values that are of kinds
  pub first_kind : (kind : Kind) (ks : List Kind) (vs : List Value) → AllZip (IsOfKind blocks) (kind ∷ ks) vs → IsOfKind blocks kind (operand 0 vs)
  first_kind kind ks [] all = absurd all
  first_kind kind ks (v ∷ vs) all = all.0

  pub second_kind : (k kind : Kind) (ks : List Kind) (vs : List Value) → AllZip (IsOfKind blocks) (k ∷ kind ∷ ks) vs
      → IsOfKind blocks kind (operand 1 vs)
  second_kind k kind ks [] all = absurd all
  second_kind k kind ks (v ∷ []) all = absurd all.1
  second_kind k kind ks (v ∷ w ∷ vs) all = all.1.0

  third_kind : (k j kind : Kind) (ks : List Kind) (vs : List Value) → AllZip (IsOfKind blocks) (k ∷ j ∷ kind ∷ ks) vs
      → IsOfKind blocks kind (operand 2 vs)
  third_kind k j kind ks [] all = absurd all
  third_kind k j kind ks (v ∷ []) all = absurd all.1
  third_kind k j kind ks (v ∷ w ∷ []) all = absurd all.1.1
  third_kind k j kind ks (v ∷ w ∷ u ∷ vs) all = all.1.1.0

  -- values that are of kinds are of equal kinds
  pub of_kinds : (ks js : List Kind) (vs : List Value) → ks ≡ js → AllZip (IsOfKind blocks) ks vs → AllZip (IsOfKind blocks) js vs
  of_kinds ks js vs is all = subst (λ (l : List Kind). AllZip (IsOfKind blocks) l vs) is all

  of_kind : (kind other : Kind) (answer : Answer) → kind ≡ other → Answers blocks other answer → Answers blocks kind answer
  of_kind kind other answer is given = subst (λ (k : Kind). Answers blocks k answer) (sym is) given

  pub compute_kind : (operation : Operation) (ks : List Kind) (kind : Kind) (memory : List MemoryBlock) (vs : List Value) → HasKinds operation ks kind
      → AllZip (IsOfKind blocks) ks vs → Answers blocks kind (compute operation memory vs)
  unfolding compute
  compute_kind (Binary operation flags width) ks kind memory vs has all =
      let both = of_kinds ks (OfWidth width ∷ OfWidth width ∷ []) vs has.0 all in
      of_kind kind (OfWidth width) (binary operation flags width (operand 0 vs) (operand 1 vs)) has.1
      (binary_kind operation flags width (operand 0 vs) (operand 1 vs) (first_kind (OfWidth width) (OfWidth width ∷ []) vs both)
      (second_kind (OfWidth width) (OfWidth width) [] vs both))
  compute_kind (Compare predicate) ks kind memory vs has all =
      of_kind kind (OfWidth 1) (compare predicate memory (operand 0 vs) (operand 1 vs)) has.2
      (compare_kind predicate memory (operand 0 vs) (operand 1 vs))
  compute_kind Select ks kind memory vs has all =
      let three = of_kinds ks (OfWidth 1 ∷ kind ∷ kind ∷ []) vs has all in
      chosen_kind kind (operand 0 vs) (operand 1 vs) (operand 2 vs) (second_kind (OfWidth 1) kind (kind ∷ []) vs three)
      (third_kind (OfWidth 1) kind kind [] vs three)
  compute_kind (Convert conversion from to) ks kind memory vs has all =
      of_kind kind (OfWidth to) (Gives (resized conversion from to (operand 0 vs))) has.1
      (resized_kind conversion from to (operand 0 vs) has.2 (first_kind (OfWidth from) [] vs (of_kinds ks (OfWidth from ∷ []) vs has.0 all)))
  compute_kind Freeze ks kind memory vs has all = frozen_kind kind (operand 0 vs) (first_kind kind [] vs (of_kinds ks (kind ∷ []) vs has all))
  compute_kind (Walk inbounds strides) ks kind memory vs has all =
      of_kind kind OfPointer (Gives (walked inbounds strides memory (operand 0 vs) (drop 1 vs))) has.1
      (walked_kind inbounds strides memory (operand 0 vs) (drop 1 vs)
      (first_kind OfPointer (index_kinds strides) vs (of_kinds ks (OfPointer ∷ index_kinds strides) vs has.0 all)))
