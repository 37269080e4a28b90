-- Slots that keep bytes, in parts of lists and where parts are overwritten.
use Rattle.std.proofs.Common.{◌≡◌, ℕ, zero, suc, List, [], ◌∷◌, length, refl, ap}
use Rattle.std.specs.Simd.Lanes.{chunk, put_chunk}
use Rattle.ir_model.specs.Values.{Cell}
use Rattle.mem_cells.specs.declared.slots.Slot.{Slot}
use Rattle.mem_cells.specs.Slots.{KeepEach}

-- there are as many
pub same_length : (slots : List Slot) (cells : List Cell) → KeepEach slots cells → length slots ≡ length cells
same_length [] [] keep = refl
same_length [] (c ∷ cells) keep = absurd keep
same_length (s ∷ slots) [] keep = absurd keep
same_length (s ∷ slots) (c ∷ cells) keep = ap suc (same_length slots cells keep.1)

-- a part
pub chunk_kept : (i n : ℕ) (slots : List Slot) (cells : List Cell) → KeepEach slots cells → KeepEach (chunk i n slots) (chunk i n cells)
chunk_kept i zero slots cells keep = tt
chunk_kept zero (suc n) [] [] keep = tt
chunk_kept (suc i) (suc n) [] [] keep = tt
chunk_kept i (suc n) [] (c ∷ cells) keep = absurd keep
chunk_kept i (suc n) (s ∷ slots) [] keep = absurd keep
chunk_kept zero (suc n) (s ∷ slots) (c ∷ cells) keep = (keep.0, chunk_kept zero n slots cells keep.1)
chunk_kept (suc i) (suc n) (s ∷ slots) (c ∷ cells) keep = chunk_kept i (suc n) slots cells keep.1

-- a part that was overwritten
pub put_kept : (i : ℕ) (slots : List Slot) (cells : List Cell) (ss : List Slot) (cs : List Cell) → KeepEach slots cells → KeepEach ss cs
    → KeepEach (put_chunk i slots ss) (put_chunk i cells cs)
put_kept i [] [] ss cs keep put = tt
put_kept i [] (c ∷ cells) ss cs keep put = absurd keep
put_kept i (s ∷ slots) [] ss cs keep put = absurd keep
put_kept zero (s ∷ slots) (c ∷ cells) [] [] keep put = keep
put_kept zero (s ∷ slots) (c ∷ cells) [] (d ∷ cs) keep put = absurd put
put_kept zero (s ∷ slots) (c ∷ cells) (t ∷ ss) [] keep put = absurd put
put_kept zero (s ∷ slots) (c ∷ cells) (t ∷ ss) (d ∷ cs) keep put = (put.0, put_kept zero slots cells ss cs keep.1 put.1)
put_kept (suc i) (s ∷ slots) (c ∷ cells) ss cs keep put = (keep.0, put_kept i slots cells ss cs keep.1 put)
