-- Slots of whole addresses, where a part of a block is overwritten.
use Rattle.std.proofs.Common.{◌≡◌, ◌≤◌, ◌<◌, ◌⊎◌, inl, inr, ℕ, zero, suc, ◌+◌, ◌-◌, ◌==◌, true, List, [], ◌∷◌, length, get_or, arith, ap, sym, ◌∙◌, subst, eqb-true}
use Rattle.std.specs.Simd.Lanes.{chunk, put_chunk}
use Rattle.std.proofs.lemmas.Bool.{cases_lt}
use Rattle.std.proofs.lemmas.Simd.{length-put_chunk, length-chunk, get_or-chunk, get_or-put_chunk_at}
use Rattle.ir_model.specs.Values.{Cell}
use Rattle.ir_model.specs.Memory.{parts_from}
use Rattle.ir_model.proofs.Chunks.{chunk_put, chunk_below, chunk_above}
use Rattle.mem_cells.specs.declared.slots.Slot.{Slot}
use Rattle.mem_cells.specs.Slots.{are_in_order, pointer_in, KeepEach, KeepAddress, KeepCells}
use Rattle.mem_cells.proofs.Kept.{same_length, put_kept}
use Rattle.mem_cells.proofs.ValuesKept.{both_true}

abbrev pub no_slot : Slot
no_slot = record { kind = 0; low = 0; high = 0 }

-- the kind of the slot at an index
abbrev pub kind_at : List Slot → ℕ → ℕ
kind_at slots i = (get_or slots i no_slot).kind

-- slots of no parts
abbrev pub AreNoParts : List Slot → Type 0
AreNoParts slots = (i : ℕ) → i < length slots → kind_at slots i < 2

-- slots of one whole address
pub record AreWhole (slots : List Slot) : Type 0 where
  pub eight : length slots ≡ 8
  pub ordered : are_in_order 0 slots ≡ true

-- slots in order have the kinds of the parts
pub ordered_kinds : (k : ℕ) (slots : List Slot) → are_in_order k slots ≡ true → (i : ℕ) → i < length slots → kind_at slots i ≡ 2 + k + i
ordered_kinds k [] are i lt = absurd (omega arith)
ordered_kinds k (s ∷ slots) are zero lt =
    let parts = both_true (s.kind == 2 + k) (are_in_order (suc k) slots) are in
    eqb-true s.kind (2 + k) parts.0 ∙ (let e : 2 + k ≡ 2 + k + 0 = omega arith in e)
ordered_kinds k (s ∷ slots) are (suc i) lt =
    let parts = both_true (s.kind == 2 + k) (are_in_order (suc k) slots) are in
    ordered_kinds (suc k) slots parts.1 i (omega arith) ∙ (let e : 2 + suc k + i ≡ 2 + k + suc i = omega arith in e)

-- so a row of them has those
pub row_kinds : (o : ℕ) (slots : List Slot) → o + 8 ≤ length slots → are_in_order 0 (chunk o 8 slots) ≡ true → (i : ℕ) → o ≤ i → i < o + 8
    → kind_at slots i + o ≡ 2 + i
row_kinds o slots inside are i from to =
    let at : o + (i - o) ≡ i = omega arith in
    let here : i - o < 8 = omega arith in
    let long : length (chunk o 8 slots) ≡ 8 = length-chunk o 8 slots inside in
    let kind : kind_at (chunk o 8 slots) (i - o) ≡ 2 + 0 + (i - o) = ordered_kinds 0 (chunk o 8 slots) are (i - o) (omega (arith, long)) in
    let found : kind_at (chunk o 8 slots) (i - o) ≡ kind_at slots (o + (i - o)) =
    ap (λ (s : Slot). s.kind) (get_or-chunk o 8 slots (i - o) no_slot here) in
    let there : kind_at slots (o + (i - o)) ≡ kind_at slots i = ap (kind_at slots) at in
    omega (arith, kind, found, there)

module _ (p : ℕ) (slots ss : List Slot) (cells cs : List Cell) (kept : KeepCells slots cells) (put : KeepEach ss cs)
    (inside : p + length ss ≤ length slots) (some : 0 < length ss) (kinds : AreNoParts ss ⊎ AreWhole ss) (address : AreWhole ss → KeepAddress ss cs) where
  as_many : length ss ≡ length cs
  as_many = same_length ss cs put

  in_cells : p + length cs ≤ length cells
  in_cells = let a = same_length slots cells kept.each in let b = as_many in omega (arith, a, b, inside)

  -- what is written at an index
  kind_put : (i : ℕ) → p ≤ i → i < p + length ss → kind_at (put_chunk p slots ss) i ≡ kind_at ss (i - p)
  kind_put i from to =
      let at : p + (i - p) ≡ i = omega arith in
      ap (kind_at (put_chunk p slots ss)) (sym at)
      ∙ ap (λ (s : Slot). s.kind) (get_or-put_chunk_at p slots ss (i - p) no_slot (omega arith) inside)

  -- where a row shares an index with what was written, it is what was written
  same_row : (o i : ℕ) → o + 8 ≤ length slots → are_in_order 0 (chunk o 8 (put_chunk p slots ss)) ≡ true → o ≤ i → i < o + 8 → p ≤ i → i < p + length ss
      → (o ≡ p) × AreWhole ss
  same_row o i row are a b c d =
      let long : length (put_chunk p slots ss) ≡ length slots = length-put_chunk p slots ss in
      let kind = row_kinds o (put_chunk p slots ss) (omega (arith, long, row)) are i a b in
      let was = kind_put i c d in
      elim kinds [
        | inl none ↦ absurd (let small = none (i - p) (omega arith) in omega (arith, kind, was, small))
        | inr whole ↦ (let here : i - p < length ss = omega arith in let now = ordered_kinds 0 ss whole.ordered (i - p) here in omega (arith, kind, was, now), whole)
      ]

  -- it keeps its address
  row_written : (o : ℕ) → o ≡ p → AreWhole ss → KeepAddress (chunk o 8 (put_chunk p slots ss)) (chunk o 8 (put_chunk p cells cs))
  row_written o is whole are =
      let found : chunk o 8 (put_chunk p slots ss) ≡ ss =
      ap (λ (k : ℕ). chunk k 8 (put_chunk p slots ss)) is ∙ ap (λ (n : ℕ). chunk p n (put_chunk p slots ss)) (sym whole.eight) ∙ chunk_put p slots ss inside in
      let there : chunk o 8 (put_chunk p cells cs) ≡ cs =
      ap (λ (k : ℕ). chunk k 8 (put_chunk p cells cs)) is ∙ ap (λ (n : ℕ). chunk p n (put_chunk p cells cs)) (sym whole.eight ∙ as_many) ∙ chunk_put p cells cs in_cells in
      there ∙ address whole whole.ordered ∙ ap (λ (xs : List Slot). parts_from 0 8 (pointer_in xs)) (sym found)

  -- a row that stays keeps what it kept
  row_stays : (o : ℕ) → o + 8 ≤ length slots → chunk o 8 (put_chunk p slots ss) ≡ chunk o 8 slots → chunk o 8 (put_chunk p cells cs) ≡ chunk o 8 cells
      → KeepAddress (chunk o 8 (put_chunk p slots ss)) (chunk o 8 (put_chunk p cells cs))
  row_stays o row same found are =
      found ∙ kept.whole o row (ap (are_in_order 0) (sym same) ∙ are) ∙ ap (λ (xs : List Slot). parts_from 0 8 (pointer_in xs)) (sym same)

  row_put : (o : ℕ) → o + 8 ≤ length slots → KeepAddress (chunk o 8 (put_chunk p slots ss)) (chunk o 8 (put_chunk p cells cs))
  row_put o row =
      elim (cases_lt p (o + 8)) [
        | inr below ↦ row_stays o row (chunk_below p o 8 slots ss below) (chunk_below p o 8 cells cs below)
        | inl under ↦ elim (cases_lt o (p + length ss)) [
          | inr above ↦ row_stays o row (chunk_above p o 8 slots ss above)
              (chunk_above p o 8 cells cs (subst (λ (n : ℕ). p + n ≤ o) as_many above))
          | inl over ↦ shared o row under over
        ]
      ]
    where
      shared : (o : ℕ) → o + 8 ≤ length slots → p < o + 8 → o < p + length ss → KeepAddress (chunk o 8 (put_chunk p slots ss)) (chunk o 8 (put_chunk p cells cs))
      shared o row under over are =
          elim (cases_lt o p) [
            | inl less ↦ (let r = same_row o p row are (omega arith) under (omega arith) (omega arith) in row_written o r.0 r.1 are)
            | inr more ↦ (let r = same_row o o row are (omega arith) (omega arith) more over in row_written o r.0 r.1 are)
          ]

  pub put_keeps : KeepCells (put_chunk p slots ss) (put_chunk p cells cs)
  put_keeps = record {
    each = put_kept p slots cells ss cs kept.each put;
    whole = λ o row. row_put o (let long = length-put_chunk p slots ss in omega (arith, long, row));
  }
