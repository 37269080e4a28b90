-- Blocks that are kept: each by its number, where one is changed, and where one is made.
use Rattle.std.proofs.Common.{◌≡◌, ◌≤◌, ◌<◌, ℕ, zero, suc, ◌+◌, true, false, Bool, nat_le, if◌then◌else◌, List, [], ◌∷◌, ◌++◌, length, set, get_or, slice_get, slice_range, take, drop, ◌-◌, Option, Some, None, arith, refl, ap, ap₂, sym, ◌∙◌, subst, le-leb}
use Rattle.std.proofs.lemmas.Bool.{lt-leb}
use Rattle.std.proofs.lemmas.Option.{slice_get-get_or}
use Rattle.std.specs.Simd.Lanes.{chunk, put_chunk}
use Rattle.ir_model.specs.declared.Why.TheVariants as why
use Rattle.ir_model.specs.declared.Access.{Access}
use Rattle.ir_model.specs.declared.Access.TheVariants.{I8, I16, I32, I64, Ptr}
use Rattle.ir_model.specs.MemoryFacts.{Carries}
use Rattle.ir_model.proofs.Stored.{cells_long}
use Rattle.ir_model.specs.Values.{Pointer, Value, Cell, MemoryBlock}
use Rattle.ir_model.specs.Memory.{block_at, size_of, access_size, access_fault, cells_of}
use Rattle.mem_cells.specs.declared.slots.Slot.{Slot}
use Rattle.mem_cells.specs.declared.blocks.Block.{Block}
use Rattle.mem_cells.specs.Slots.{KeepCells, KeepAddress, kept_slots, HasWords}
use Rattle.mem_cells.specs.Shown.{KeepsBlock, KeepBlocks, slots_of}
use Rattle.mem_cells.proofs.Kept.{same_length}
use Rattle.mem_cells.proofs.Rows.{put_keeps}
use Rattle.mem_cells.proofs.SlotsKept.{value_kept}

-- there are as many
pub as_many_blocks : (blocks : List Block) (memory : List MemoryBlock) → KeepBlocks blocks memory → length blocks ≡ length memory
as_many_blocks [] [] keep = refl
as_many_blocks [] (m ∷ memory) keep = absurd keep
as_many_blocks (b ∷ blocks) [] keep = absurd keep
as_many_blocks (b ∷ blocks) (m ∷ memory) keep = ap suc (as_many_blocks blocks memory keep.1)

-- the block of a number
pub block_kept : (blocks : List Block) (memory : List MemoryBlock) (k : ℕ) (d : Block) → KeepBlocks blocks memory → k < length blocks
    → KeepsBlock (get_or blocks k d) (block_at memory k)
block_kept [] memory k d keep lt = absurd (omega arith)
block_kept (b ∷ blocks) [] k d keep lt = absurd keep
block_kept (b ∷ blocks) (m ∷ memory) zero d keep lt = keep.0
block_kept (b ∷ blocks) (m ∷ memory) (suc k) d keep lt = block_kept blocks memory k d keep.1 (omega arith)

-- a block in the place of another
pub set_kept : (blocks : List Block) (memory : List MemoryBlock) (k : ℕ) (b : Block) (m : MemoryBlock) → KeepBlocks blocks memory → KeepsBlock b m
    → KeepBlocks (set blocks k b) (set memory k m)
set_kept [] [] k b m keep one = tt
set_kept [] (n ∷ memory) k b m keep one = absurd keep
set_kept (c ∷ blocks) [] k b m keep one = absurd keep
set_kept (c ∷ blocks) (n ∷ memory) zero b m keep one = (one, keep.1)
set_kept (c ∷ blocks) (n ∷ memory) (suc k) b m keep one = (keep.0, set_kept blocks memory k b m keep.1 one)

-- a block after the others
pub added_kept : (blocks : List Block) (memory : List MemoryBlock) (b : Block) (m : MemoryBlock) → KeepBlocks blocks memory → KeepsBlock b m
    → KeepBlocks (blocks ++ b ∷ []) (memory ++ m ∷ [])
added_kept [] [] b m keep one = (one, tt)
added_kept [] (n ∷ memory) b m keep one = absurd keep
added_kept (c ∷ blocks) [] b m keep one = absurd keep
added_kept (c ∷ blocks) (n ∷ memory) b m keep one = (keep.0, added_kept blocks memory b m keep.1 one)

-- why an access fails, if it does
pub fault_dead : (access : Access) (q : Pointer) (memory : List MemoryBlock) → (block_at memory q.block).live ≡ false
    → access_fault access q memory ≡ Some why.Dead
fault_dead access q memory dead =
    ap (λ (b : Bool). if b then if nat_le (q.offset + access_size access) (size_of memory q.block) then None else Some why.OutOfBounds else Some why.Dead) dead

pub fault_outside : (access : Access) (q : Pointer) (memory : List MemoryBlock) → (block_at memory q.block).live ≡ true
    → size_of memory q.block < q.offset + access_size access → access_fault access q memory ≡ Some why.OutOfBounds
fault_outside access q memory live out =
    ap₂ (λ (b t : Bool). if b then if t then None else Some why.OutOfBounds else Some why.Dead) live
    (lt-leb (q.offset + access_size access) (size_of memory q.block) out)

pub no_fault : (access : Access) (q : Pointer) (memory : List MemoryBlock) → (block_at memory q.block).live ≡ true
    → q.offset + access_size access ≤ size_of memory q.block → access_fault access q memory ≡ None
no_fault access q memory live inside =
    ap₂ (λ (b t : Bool). if b then if t then None else Some why.OutOfBounds else Some why.Dead) live
    (le-leb (q.offset + access_size access) (size_of memory q.block) inside)

pub live_without_fault : (access : Access) (q : Pointer) (memory : List MemoryBlock) → access_fault access q memory ≡ None
    → (block_at memory q.block).live ≡ true
live_without_fault access q memory none = by_cases (block_at memory q.block).live none
  where
    by_cases : (live : Bool) → (if live then if nat_le (q.offset + access_size access) (size_of memory q.block) then None else Some why.OutOfBounds else Some why.Dead) ≡ None
        → live ≡ true
    by_cases true none = refl
    by_cases false none = cc

-- the block that an index gives
pub block_found : (blocks : List Block) (memory : List MemoryBlock) (k : ℕ) (b : Block) → KeepBlocks blocks memory → k < length blocks
    → b ≡ get_or blocks k b → KeepsBlock b (block_at memory k)
block_found blocks memory k b keep lt is = subst (λ (x : Block). KeepsBlock x (block_at memory k)) (sym is) (block_kept blocks memory k b keep lt)

pub slots_counted : (blocks : List Block) (k : ℕ) (b : Block) → k < length blocks → b ≡ get_or blocks k b
    → length (slots_of (slice_get blocks k)) ≡ length b.slots.items
slots_counted blocks k b lt is = ap (λ (o : Option Block). length (slots_of o)) (slice_get-get_or blocks k b lt ∙ ap Some (sym is))

-- the slots that an access reads
pub slots_read : (start size o n : ℕ) (xs ys : List Slot) → start ≡ o → size ≡ n → ys ≡ xs → slice_range ys start (start + size) ≡ chunk o n xs
slots_read start size o n xs ys at many is =
    let count : start + size - start ≡ n = omega arith in
    ap (λ (m : ℕ). take m (drop start ys)) count ∙ ap₂ (λ (i : ℕ) (zs : List Slot). take n (drop i zs)) at is

pub address_read : (o n : ℕ) (slots : List Slot) (cells : List Cell) → KeepCells slots cells → o + n ≤ length slots → n ≡ 8
    → KeepAddress (chunk o n slots) (chunk o n cells)
address_read o n slots cells keep inside eight =
    subst (λ (m : ℕ). KeepAddress (chunk o m slots) (chunk o m cells)) (sym eight) (keep.whole o (omega (arith, inside, eight)))

moves_some : (access : Access) → 0 < access_size access
moves_some I8 = omega arith
moves_some I16 = omega arith
moves_some I32 = omega arith
moves_some I64 = omega arith
moves_some Ptr = omega arith

-- a value that was stored
pub value_stored : (access : Access) (v : Value) (o : ℕ) (slots : List Slot) (cells : List Cell) → KeepCells slots cells → Carries access v → HasWords v
    → o + access_size access ≤ length slots
    → KeepCells (put_chunk o slots (take (access_size access) (kept_slots v))) (put_chunk o cells (cells_of access v))
value_stored access v o slots cells keep fits words inside =
    let ss : List Slot = take (access_size access) (kept_slots v) in
    let are = value_kept access v fits words in
    let long : length ss ≡ access_size access = same_length ss (cells_of access v) are.each ∙ cells_long access v fits in
    let some = moves_some access in
    put_keeps o slots ss cells (cells_of access v) keep are.each (omega (arith, long, inside)) (omega (arith, long, some)) are.kinds are.address

-- the slots that a store leaves
pub slots_put : (start size o n : ℕ) (xs ys kept whole : List Slot) → start ≡ o → size ≡ n → ys ≡ xs → whole ≡ kept
    → put_chunk start ys (take size whole) ≡ put_chunk o xs (take n kept)
slots_put start size o n xs ys kept whole at many is same =
    ap₂ (λ (i : ℕ) (zs : List Slot). put_chunk i zs (take size whole)) at is
    ∙ ap₂ (λ (m : ℕ) (ks : List Slot). put_chunk o xs (take m ks)) many same
