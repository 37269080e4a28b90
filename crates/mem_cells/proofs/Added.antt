-- Bytes that are added at the end of others.
use Rattle.std.proofs.Common.{◌≡◌, ◌≤◌, ◌<◌, true, inl, inr, ℕ, zero, suc, ◌+◌, ◌-◌, List, [], ◌∷◌, ◌++◌, map, length, arith, refl, ap, sym, ◌∙◌, subst, length-append}
use Rattle.std.proofs.Math.ListN.{replicate}
use Rattle.std.specs.Simd.Lanes.{chunk, put_chunk}
use Rattle.std.proofs.lemmas.Bool.{cases_lt}
use Rattle.std.proofs.lemmas.List.{get_or-append_right}
use Rattle.ir_model.specs.Values.{Cell, Unknown, Byte}
use Rattle.ir_model.specs.Memory.{parts_from}
use Rattle.mem_cells.specs.declared.slots.Slot.{Slot}
use Rattle.mem_cells.specs.Slots.{KeepEach, KeepAddress, KeepCells, byte_slot, pointer_in, are_in_order}
use Rattle.mem_cells.proofs.Kept.{same_length}
use Rattle.mem_cells.proofs.Rows.{no_slot, kind_at, AreNoParts, AreWhole, row_kinds, put_keeps}
use Rattle.mem_cells.proofs.SlotsKept.{AreKept}

-- each keeps its byte
both_kept : (slots ss : List Slot) (cells cs : List Cell) → KeepEach slots cells → KeepEach ss cs → KeepEach (slots ++ ss) (cells ++ cs)
both_kept [] ss [] cs keep more = more
both_kept [] ss (c ∷ cells) cs keep more = absurd keep
both_kept (s ∷ slots) ss [] cs keep more = absurd keep
both_kept (s ∷ slots) ss (c ∷ cells) cs keep more = (keep.0, both_kept slots ss cells cs keep.1 more)

-- a part of the first of two lists
part_of_first : {A : Type 0} → (o n : ℕ) (xs ys : List A) → o + n ≤ length xs → chunk o n (xs ++ ys) ≡ chunk o n xs
part_of_first o zero xs ys inside = refl
part_of_first o (suc n) [] ys inside = absurd (omega arith)
part_of_first {A} zero (suc n) (x ∷ xs) ys inside = ap (λ (rest : List A). x ∷ rest) (part_of_first zero n xs ys (omega arith))
part_of_first (suc o) (suc n) (x ∷ xs) ys inside = part_of_first o (suc n) xs ys (omega arith)

-- what is written over the second of two lists that is as long
put_over : {A : Type 0} → (xs ys zs : List A) → length zs ≡ length ys → put_chunk (length xs) (xs ++ ys) zs ≡ xs ++ zs
put_over [] [] [] long = refl
put_over [] [] (z ∷ zs) long = absurd (omega arith)
put_over [] (y ∷ ys) [] long = absurd (omega arith)
put_over {A} [] (y ∷ ys) (z ∷ zs) long = ap (λ (rest : List A). z ∷ rest) (put_over [] ys zs (omega arith))
put_over {A} (x ∷ xs) ys zs long = ap (λ (rest : List A). x ∷ rest) (put_over xs ys zs long)

-- no row of a whole address reaches into slots of no parts
no_row : (o : ℕ) (slots ss : List Slot) → AreNoParts ss → o + 8 ≤ length (slots ++ ss) → length slots < o + 8
    → are_in_order 0 (chunk o 8 (slots ++ ss)) ≡ true → ⊥
no_row o slots ss none row over are =
    let long = length-append slots ss in
    let kind = row_kinds o (slots ++ ss) row are (o + 7) (omega arith) (omega arith) in
    let found : kind_at (slots ++ ss) (o + 7) ≡ kind_at ss (o + 7 - length slots) =
    ap (λ (s : Slot). s.kind) (get_or-append_right slots ss (length slots) (o + 7) no_slot refl (omega arith)) in
    let small = none (o + 7 - length slots) (omega (arith, long)) in
    omega (arith, kind, found, small)

-- slots of no parts
pub no_parts_added : (slots ss : List Slot) (cells cs : List Cell) → KeepCells slots cells → KeepEach ss cs → AreNoParts ss
    → KeepCells (slots ++ ss) (cells ++ cs)
no_parts_added slots ss cells cs keep more none = record {
  each = both_kept slots ss cells cs keep.each more;
  whole = λ o row are.
      elim (cases_lt (length slots) (o + 8)) [
        | inl over ↦ absurd (no_row o slots ss none row over are)
        | inr before ↦ row_stays o before are
      ];
}
  where
    row_stays : (o : ℕ) → o + 8 ≤ length slots → KeepAddress (chunk o 8 (slots ++ ss)) (chunk o 8 (cells ++ cs))
    row_stays o inside are =
        let same = part_of_first o 8 slots ss inside in
        let long = same_length slots cells keep.each in
        part_of_first o 8 cells cs (omega (arith, long, inside))
        ∙ keep.whole o inside (ap (are_in_order 0) (sym same) ∙ are)
        ∙ ap (λ (xs : List Slot). parts_from 0 8 (pointer_in xs)) (sym same)

-- poison and numbers
poison_each : (n : ℕ) → KeepEach (replicate n no_slot) (replicate n Unknown)
poison_each zero = tt
poison_each (suc n) = (refl, poison_each n)

zeros_each : (n : ℕ) → KeepEach (replicate n (byte_slot 0)) (replicate n (Byte 0))
zeros_each zero = tt
zeros_each (suc n) = ((refl, refl), zeros_each n)

bytes_each : (bytes : List ℕ) → KeepEach (map byte_slot bytes) (map Byte bytes)
bytes_each [] = tt
bytes_each (b ∷ bytes) = ((refl, refl), bytes_each bytes)

same_kinds : (n : ℕ) (s : Slot) → s.kind < 2 → (i : ℕ) → kind_at (replicate n s) i < 2
same_kinds zero s small i = omega arith
same_kinds (suc n) s small zero = small
same_kinds (suc n) s small (suc i) = same_kinds n s small i

byte_kinds : (bytes : List ℕ) (i : ℕ) → kind_at (map byte_slot bytes) i < 2
byte_kinds [] i = omega arith
byte_kinds (b ∷ bytes) zero = omega arith
byte_kinds (b ∷ bytes) (suc i) = byte_kinds bytes i

pub poison_added : (slots : List Slot) (cells : List Cell) (n : ℕ) → KeepCells slots cells
    → KeepCells (slots ++ replicate n no_slot) (cells ++ replicate n Unknown)
poison_added slots cells n keep = no_parts_added slots _ cells _ keep (poison_each n) (λ i lt. same_kinds n no_slot (omega arith) i)

pub zeros_added : (slots : List Slot) (cells : List Cell) (n : ℕ) → KeepCells slots cells
    → KeepCells (slots ++ replicate n (byte_slot 0)) (cells ++ replicate n (Byte 0))
zeros_added slots cells n keep = no_parts_added slots _ cells _ keep (zeros_each n) (λ i lt. same_kinds n (byte_slot 0) (omega arith) i)

pub bytes_added : (slots : List Slot) (cells : List Cell) (bytes : List ℕ) → KeepCells slots cells
    → KeepCells (slots ++ map byte_slot bytes) (cells ++ map Byte bytes)
bytes_added slots cells bytes keep = no_parts_added slots _ cells _ keep (bytes_each bytes) (λ i lt. byte_kinds bytes i)

-- eight slots of an address: they are as if they were written over poison
whole_added : (slots ss : List Slot) (cells cs : List Cell) → KeepCells slots cells → AreKept ss cs → AreWhole ss → KeepCells (slots ++ ss) (cells ++ cs)
whole_added slots ss cells cs keep are whole =
    let long = length-append slots (replicate 8 no_slot) in
    let as_many : length slots ≡ length cells = same_length slots cells keep.each in
    let many : length ss ≡ length cs = same_length ss cs are.each in
    let eight = whole.eight in
    let put = put_keeps (length slots) (slots ++ replicate 8 no_slot) ss (cells ++ replicate 8 Unknown) cs (poison_added slots cells 8 keep) are.each
    (omega (arith, long, eight)) (omega (arith, eight)) are.kinds are.address in
    let left : put_chunk (length slots) (slots ++ replicate 8 no_slot) ss ≡ slots ++ ss = put_over slots (replicate 8 no_slot) ss eight in
    let right : put_chunk (length slots) (cells ++ replicate 8 Unknown) cs ≡ cells ++ cs =
    ap (λ (n : ℕ). put_chunk n (cells ++ replicate 8 Unknown) cs) as_many ∙ put_over cells (replicate 8 Unknown) cs (sym many ∙ eight) in
    subst (λ (xs : List Slot). KeepCells xs (cells ++ cs)) left
    (subst (λ (ds : List Cell). KeepCells (put_chunk (length slots) (slots ++ replicate 8 no_slot) ss) ds) right put)

-- slots that keep a value
pub value_added : (slots ss : List Slot) (cells cs : List Cell) → KeepCells slots cells → AreKept ss cs → KeepCells (slots ++ ss) (cells ++ cs)
value_added slots ss cells cs keep are =
    elim are.kinds [ inl none ↦ no_parts_added slots ss cells cs keep are.each none | inr whole ↦ whole_added slots ss cells cs keep are whole ]
