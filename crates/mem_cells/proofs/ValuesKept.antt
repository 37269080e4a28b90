-- What slots keep, as values.
use Rattle.std.proofs.Common.{◌≡◌, ℕ, zero, suc, ◌+◌, ◌*◌, ◌==◌, ◌&&◌, Bool, true, false, true≢false, if◌then◌else◌, List, [], ◌∷◌, length, Option, Some, None, arith, refl, ap, ap₂, sym, ◌∙◌}
use Rattle.std.proofs.Common.{eq-eqb, eqb-true}
use Rattle.std.specs.List.{list_all}
use Rattle.std.specs.Option.{option_map}
use Rattle.ir_model.specs.Values.{Pointer, Address, Poison, Cell, Unknown, Byte, Part, null_pointer}
use Rattle.ir_model.specs.Memory.{number_in, address_in, are_parts, is_zero, parts_from}
use Rattle.mem_cells.specs.declared.slots.Slot.{Slot}
use Rattle.mem_cells.proofs.Kept.{same_length}
use Rattle.mem_cells.specs.Slots.{word_of, are_in_order, pointer_in, KeepEach, KeepAddress}

-- whether slots keep numbers
abbrev pub are_numbers : List Slot → Bool
are_numbers slots = list_all (λ s. s.kind == 1) slots

-- the number that they spell
abbrev pub low_of : List Slot → ℕ
low_of slots = word_of (λ s. s.low) slots

-- the number in bytes is that of their slots, where all are numbers
pub number_kept : (slots : List Slot) (cells : List Cell) → KeepEach slots cells
    → number_in cells ≡ (if are_numbers slots then Some (low_of slots) else None)
number_kept [] [] keep = refl
number_kept [] (c ∷ cells) keep = absurd keep
number_kept (s ∷ slots) [] keep = absurd keep
number_kept (s ∷ slots) (Unknown ∷ cells) keep =
    let no : (s.kind == 1) ≡ false = ap (λ k. k == 1) keep.0 in
    ap (λ b. if b && are_numbers slots then Some (low_of (s ∷ slots)) else None) (sym no)
number_kept (s ∷ slots) (Part q k ∷ cells) keep =
    let no : (s.kind == 1) ≡ false = ap (λ k. k == 1) keep.0 ∙ not_one k in
    ap (λ b. if b && are_numbers slots then Some (low_of (s ∷ slots)) else None) (sym no)
  where
    not_one : (k : ℕ) → (2 + k == 1) ≡ false
    not_one k = grind arith
number_kept (s ∷ slots) (Byte n ∷ cells) keep =
    let yes : (s.kind == 1) ≡ true = eq-eqb s.kind 1 keep.0.0 in
    ap (option_map (λ rest. n + 256 * rest)) (number_kept slots cells keep.1)
    ∙ chosen (are_numbers slots) n (low_of slots)
    ∙ ap (λ m. if are_numbers slots then Some (m + 256 * low_of slots) else None) (sym keep.0.1)
    ∙ ap (λ b. if b && are_numbers slots then Some (low_of (s ∷ slots)) else None) (sym yes)
  where
    chosen : (b : Bool) (n w : ℕ) → option_map (λ rest. n + 256 * rest) (if b then Some w else None) ≡ (if b then Some (n + 256 * w) else None)
    chosen true n w = refl
    chosen false n w = refl

pub not_true : (b : Bool) → (b ≡ true → ⊥) → b ≡ false
not_true true h = absurd (h refl)
not_true false h = refl

pub both_true : (a b : Bool) → (a && b) ≡ true → (a ≡ true) × (b ≡ true)
both_true true b h = (refl, h)
both_true false b h = absurd (true≢false (sym h))

-- a number that is zero is that of zero bytes
pub zeros : (cells : List Cell) → number_in cells ≡ Some 0 → list_all is_zero cells ≡ true
zeros [] is = refl
zeros (Unknown ∷ cells) is = grind arith
zeros (Part q k ∷ cells) is = grind arith
zeros (Byte n ∷ cells) is = zeros_from n cells (number_in cells) refl is (λ h. zeros cells h)
  where
    zeros_from : (n : ℕ) (cells : List Cell) (rest : Option ℕ) → number_in cells ≡ rest → option_map (λ m. n + 256 * m) rest ≡ Some 0
        → (number_in cells ≡ Some 0 → list_all is_zero cells ≡ true) → list_all is_zero (Byte n ∷ cells) ≡ true
    zeros_from n cells None is none others = grind arith
    zeros_from n cells (Some m) is some others =
        let sum : n + 256 * m ≡ 0 = grind arith in
        let none : n ≡ 0 = omega arith in
        let rest : m ≡ 0 = omega arith in
        ap (λ b. b && list_all is_zero cells) (eq-eqb n 0 none) ∙ others (is ∙ ap Some rest)

-- and zero bytes are those of zero
pub zero_of_zeros : (cells : List Cell) → list_all is_zero cells ≡ true → number_in cells ≡ Some 0
zero_of_zeros [] are = refl
zero_of_zeros (Unknown ∷ cells) are = absurd (true≢false (sym are))
zero_of_zeros (Part q k ∷ cells) are = absurd (true≢false (sym are))
zero_of_zeros (Byte n ∷ cells) are =
    let parts = both_true (n == 0) (list_all is_zero cells) are in
    ap (option_map (λ rest. n + 256 * rest)) (zero_of_zeros cells parts.1) ∙ ap (λ m. Some (m + 256 * 0)) (eqb-true n 0 parts.0)

-- the parts of an address are its parts
parts_match : (q : Pointer) (k count : ℕ) → are_parts q k (parts_from k count q) ≡ true
parts_match q k zero = refl
parts_match q k (suc count) =
    ap (λ b. b && are_parts q (suc k) (parts_from (suc k) count q))
    (three (q.block == q.block) (q.offset == q.offset) (k == k) (eq-eqb _ _ refl) (eq-eqb _ _ refl) (eq-eqb _ _ refl))
    ∙ parts_match q (suc k) count
  where
    three : (a b c : Bool) → a ≡ true → b ≡ true → c ≡ true → (a && b && c) ≡ true
    three a b c x y z = cc

-- slots of parts of one address in order are in order
parts_ordered : (q : Pointer) (k : ℕ) (slots : List Slot) (cells : List Cell) → KeepEach slots cells → are_parts q k cells ≡ true
    → are_in_order k slots ≡ true
parts_ordered q k [] [] keep are = refl
parts_ordered q k [] (c ∷ cells) keep are = absurd keep
parts_ordered q k (s ∷ slots) [] keep are = absurd keep
parts_ordered q k (s ∷ slots) (Unknown ∷ cells) keep are = absurd (true≢false (sym are))
parts_ordered q k (s ∷ slots) (Byte n ∷ cells) keep are = absurd (true≢false (sym are))
parts_ordered q k (s ∷ slots) (Part r j ∷ cells) keep are =
    let parts = both_true (r.block == q.block && r.offset == q.offset && j == k) (are_parts q (suc k) cells) are in
    let last = both_true (r.block == q.block && r.offset == q.offset) (j == k) parts.0 in
    let kind : s.kind ≡ 2 + k = keep.0 ∙ ap (λ i. 2 + i) (eqb-true j k last.1) in
    ap (λ b. b && are_in_order (suc k) slots) (eq-eqb s.kind (2 + k) kind) ∙ parts_ordered q (suc k) slots cells keep.1 parts.1

-- slots in order keep their address
pub address_kept : (slots : List Slot) (cells : List Cell) → KeepAddress slots cells → are_in_order 0 slots ≡ true
    → address_in cells ≡ Address (pointer_in slots)
address_kept slots cells keep are =
    ap address_in (keep are)
    ∙ ap (λ b. if b then Address (pointer_in slots) else Poison) (parts_match (pointer_in slots) 0 8)

-- zero bytes are null
pub null_kept : (slots : List Slot) (cells : List Cell) → KeepEach slots cells → length slots ≡ 8 → are_numbers slots ≡ true → low_of slots ≡ 0
    → address_in cells ≡ Address null_pointer
null_kept slots cells keep long are zero_is =
    first cells (omega (arith, same_length slots cells keep))
    (number_kept slots cells keep ∙ ap₂ (λ (b : Bool) (n : ℕ). if b then Some n else None) are zero_is)
  where
    first : (cells : List Cell) → length cells ≡ 8 → number_in cells ≡ Some 0 → address_in cells ≡ Address null_pointer
    first [] long is = absurd (omega arith)
    first (Unknown ∷ cells) long is = grind arith
    first (Part q k ∷ cells) long is = grind arith
    first (Byte n ∷ cells) long is = ap (λ b. if b then Address null_pointer else Poison) (zeros (Byte n ∷ cells) is)

-- all else is poison
pub poison_kept : (slots : List Slot) (cells : List Cell) → KeepEach slots cells → are_in_order 0 slots ≡ false
    → (are_numbers slots ≡ true → low_of slots ≡ 0 → ⊥) → address_in cells ≡ Poison
poison_kept [] [] keep order other = absurd (true≢false order)
poison_kept [] (c ∷ cells) keep order other = absurd keep
poison_kept (s ∷ slots) [] keep order other = absurd keep
poison_kept (s ∷ slots) (Unknown ∷ cells) keep order other = refl
poison_kept (s ∷ slots) (Part q k ∷ cells) keep order other =
    ap (λ b. if b then Address q else Poison) (not_true (are_parts q 0 (Part q k ∷ cells))
    (λ are. true≢false (sym (parts_ordered q 0 (s ∷ slots) (Part q k ∷ cells) keep are) ∙ order)))
poison_kept (s ∷ slots) (Byte n ∷ cells) keep order other =
    ap (λ b. if b then Address null_pointer else Poison) (not_true (list_all is_zero (Byte n ∷ cells))
    (λ are. spelled (are_numbers (s ∷ slots)) (low_of (s ∷ slots))
    (sym (number_kept (s ∷ slots) (Byte n ∷ cells) keep) ∙ zero_of_zeros (Byte n ∷ cells) are) other))
  where
    spelled : (b : Bool) (n : ℕ) → (if b then Some n else None) ≡ Some 0 → (b ≡ true → n ≡ 0 → ⊥) → ⊥
    spelled true n is other = other refl (grind arith)
    spelled false n is other = grind arith
