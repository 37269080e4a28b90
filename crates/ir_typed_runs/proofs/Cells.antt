-- Loads of memory give values of their kinds, and stores of such values leave such memory.
use Rattle.std.specs.Prelude.{◌≡◌, ◌≤◌, ◌<◌, ℕ, zero, suc, ◌+◌, ◌^◌, false, List, [], ◌∷◌, length, replicate, take, drop, Option, Some, None}
use Rattle.std.specs.List.{AllByRecursion, list_all}
use Rattle.std.proofs.Common.{arith, refl, ◌∙◌, length-append, length-set}
use Rattle.ir_model.specs.declared.Why.{Why}
use Rattle.ir_model.specs.declared.Access.{Access}
use Rattle.ir_model.specs.declared.Access.TheVariants.{I8, I16, I32, I64, Ptr}
use Rattle.ir_model.specs.Values.{Pointer, Value, Integer, Address, Poison, Cell, Unknown, Byte, Part, MemoryBlock, no_block, live_block, null_pointer, is_null}
use Rattle.ir_model.specs.Memory.{block_at, made, ended, all_ended, access_size, access_fault, unless_fault, number_in, integer_of, is_zero, are_parts, address_in, value_in, parts_from, cells_of, cells_at, overwritten, stored}
use Rattle.ir_model.specs.Steps.{loaded}
use Rattle.ir_typed_runs.specs.Kinds.{Kind, OfWidth, OfPointer, IsPointer, IsOfKind, IsCell, kind_of, Answers}
use Rattle.ir_typed_runs.specs.TypedStates.{HasTypedCells}
use Rattle.ir_typed_runs.proofs.Lists.{if_holds, all_at, all_set, all_joined, all_dropped, all_replicated, all_put, all_weaker}
use Rattle.ir_typed_runs.proofs.Numbers.{IsBelow, number_below, bytes_below}

-- where there are more blocks, what was of a kind still is
pub pointer_grows : (m n : ℕ) → m ≤ n → (q : Pointer) → IsPointer m q → IsPointer n q
pointer_grows m n le q is = record { exists = omega (arith, is.exists); distance = is.distance }

pub kind_grows : (m n : ℕ) → m ≤ n → (kind : Kind) (v : Value) → IsOfKind m kind v → IsOfKind n kind v
kind_grows m n le kind Poison is = tt
kind_grows m n le (OfWidth width) (Integer w k) is = is
kind_grows m n le (OfWidth width) (Address q) is = absurd is
kind_grows m n le OfPointer (Integer w k) is = absurd is
kind_grows m n le OfPointer (Address q) is = pointer_grows m n le q is

cell_grows : (m n : ℕ) → m ≤ n → (c : Cell) → IsCell m c → IsCell n c
cell_grows m n le Unknown is = tt
cell_grows m n le (Byte k) is = is
cell_grows m n le (Part q k) is = (pointer_grows m n le q is.0, is.1)

pub cells_grow : (m n : ℕ) → m ≤ n → (cells : List Cell) → AllByRecursion (IsCell m) cells → AllByRecursion (IsCell n) cells
cells_grow m n le cells all = all_weaker (IsCell m) (IsCell n) (cell_grows m n le) cells all

pub memory_grows : (m n : ℕ) → m ≤ n → (memory : List MemoryBlock) → AllByRecursion (HasTypedCells m) memory → AllByRecursion (HasTypedCells n) memory
memory_grows m n le memory all =
    all_weaker (HasTypedCells m) (HasTypedCells n) (λ (b : MemoryBlock). cells_grow m n le b.cells) memory all

module _ (blocks : ℕ) where
  -- a number that is spelled by bytes is an integer of their bits
  integer_kind : (width bound : ℕ) (number : Option ℕ) → bound ≡ 2 ^ width → IsBelow bound number → IsOfKind blocks (OfWidth width) (integer_of width number)
  integer_kind width bound None is below = tt
  integer_kind width bound (Some n) is below = (refl, omega (arith, is))

  address_kind : (cells : List Cell) → 0 < blocks → AllByRecursion (IsCell blocks) cells → IsOfKind blocks OfPointer (address_in cells)
  address_kind [] some all = tt
  address_kind (Unknown ∷ cells) some all = tt
  address_kind (Byte n ∷ cells) some all =
      if_holds (IsOfKind blocks OfPointer) (list_all is_zero (Byte n ∷ cells)) (Address null_pointer) Poison
      (record { exists = some; distance = omega arith }) tt
  address_kind (Part q k ∷ cells) some all =
      if_holds (IsOfKind blocks OfPointer) (are_parts q 0 (Part q k ∷ cells)) (Address q) Poison all.0.0 tt

  held_kind : (access : Access) (cells : List Cell) → 0 < blocks → AllByRecursion (IsCell blocks) cells
      → IsOfKind blocks (kind_of access) (value_in access (take (access_size access) cells))
  held_kind I8 cells some all = integer_kind 8 (256 ^ 1) (number_in (take 1 cells)) refl (number_below blocks 1 cells all)
  held_kind I16 cells some all = integer_kind 16 (256 ^ 2) (number_in (take 2 cells)) refl (number_below blocks 2 cells all)
  held_kind I32 cells some all = integer_kind 32 (256 ^ 4) (number_in (take 4 cells)) refl (number_below blocks 4 cells all)
  held_kind I64 cells some all = integer_kind 64 (256 ^ 8) (number_in (take 8 cells)) refl (number_below blocks 8 cells all)
  held_kind Ptr cells some all = address_kind (take 8 cells) some (taken 8 cells all)
    where
      taken : (n : ℕ) (xs : List Cell) → AllByRecursion (IsCell blocks) xs → AllByRecursion (IsCell blocks) (take n xs)
      taken zero xs each = tt
      taken (suc n) [] each = tt
      taken (suc n) (x ∷ xs) each = (each.0, taken n xs each.1)

  unless_kind : (fault : Option Why) (kind : Kind) (v : Value) → IsOfKind blocks kind v → Answers blocks kind (unless_fault fault v)
  unless_kind None kind v is = is
  unless_kind (Some cause) kind v is = tt

  -- each block has bytes that may be in memory, one that isn't there too
  pub block_cells : (memory : List MemoryBlock) (k : ℕ) → AllByRecursion (HasTypedCells blocks) memory → HasTypedCells blocks (block_at memory k)
  block_cells memory k all = all_at (HasTypedCells blocks) memory k no_block tt all

  -- what a load answers is of its access's kind
  pub loaded_kind : (access : Access) (v : Value) (memory : List MemoryBlock) → 0 < blocks → AllByRecursion (HasTypedCells blocks) memory
      → Answers blocks (kind_of access) (loaded access v memory)
  loaded_kind access (Integer w n) memory some all = tt
  loaded_kind access (Address q) memory some all =
      unless_kind (access_fault access q memory) (kind_of access) (value_in access (cells_at access q memory))
      (held_kind access (drop q.offset (block_at memory q.block).cells) some
      (all_dropped (IsCell blocks) q.offset (block_at memory q.block).cells (block_cells memory q.block all)))
  loaded_kind access Poison memory some all = tt

  parts_cells : (k count : ℕ) (q : Pointer) → k + count ≤ 8 → IsPointer blocks q → AllByRecursion (IsCell blocks) (parts_from k count q)
  parts_cells k zero q le is = tt
  parts_cells k (suc count) q le is = ((is, omega arith), parts_cells (suc k) count q (omega arith) is)

  -- the bytes of a value may be in memory
  value_cells : (access : Access) (v : Value) → IsOfKind blocks (kind_of access) v → AllByRecursion (IsCell blocks) (cells_of access v)
  value_cells access (Integer w n) is = bytes_below blocks 0 (access_size access) n
  value_cells access (Address q) is =
      if_holds (AllByRecursion (IsCell blocks)) (is_null q) (replicate 8 (Byte 0)) (parts_from 0 8 q)
      (all_replicated (IsCell blocks) 8 (Byte 0) (omega arith)) (parts_cells 0 8 q (omega arith) (pointer access is))
    where
      pointer : (access : Access) → IsOfKind blocks (kind_of access) (Address q) → IsPointer blocks q
      pointer I8 h = absurd h
      pointer I16 h = absurd h
      pointer I32 h = absurd h
      pointer I64 h = absurd h
      pointer Ptr h = h
  value_cells access Poison is = all_replicated (IsCell blocks) (access_size access) Unknown tt

  pub stored_cells : (access : Access) (v : Value) (q : Pointer) (memory : List MemoryBlock) → IsOfKind blocks (kind_of access) v
      → AllByRecursion (HasTypedCells blocks) memory → AllByRecursion (HasTypedCells blocks) (stored access v q memory)
  stored_cells access v q memory is all =
      let b : MemoryBlock = block_at memory q.block in
      all_set (HasTypedCells blocks) memory q.block (overwritten q.offset (cells_of access v) b)
      (all_put (IsCell blocks) q.offset b.cells (cells_of access v) (block_cells memory q.block all) (value_cells access v is)) all

  pub made_cells : (size : ℕ) (memory : List MemoryBlock) → AllByRecursion (HasTypedCells blocks) memory
      → AllByRecursion (HasTypedCells blocks) (made size memory)
  made_cells size memory all =
      all_joined (HasTypedCells blocks) memory (live_block (replicate size Unknown) ∷ []) all (all_replicated (IsCell blocks) size Unknown tt, tt)

  pub ended_cells : (ks : List ℕ) (memory : List MemoryBlock) → AllByRecursion (HasTypedCells blocks) memory
      → AllByRecursion (HasTypedCells blocks) (all_ended ks memory)
  ended_cells [] memory all = all
  ended_cells (k ∷ ks) memory all =
      ended_cells ks (ended k memory)
      (all_set (HasTypedCells blocks) memory k (record (block_at memory k) { live = false }) (block_cells memory k all) all)

-- how many blocks there are after each change of memory
pub made_count : (size : ℕ) (memory : List MemoryBlock) → length (made size memory) ≡ suc (length memory)
made_count size memory = omega (arith, length-append memory (live_block (replicate size Unknown) ∷ []))

pub stored_count : (access : Access) (v : Value) (q : Pointer) (memory : List MemoryBlock) → length (stored access v q memory) ≡ length memory
stored_count access v q memory = length-set memory q.block (overwritten q.offset (cells_of access v) (block_at memory q.block))

pub ended_count : (ks : List ℕ) (memory : List MemoryBlock) → length (all_ended ks memory) ≡ length memory
ended_count [] memory = refl
ended_count (k ∷ ks) memory = ended_count ks (ended k memory) ∙ length-set memory k (record (block_at memory k) { live = false })
