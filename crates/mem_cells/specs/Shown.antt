-- Which memory is kept.
use Rattle.std.specs.Prelude.{◌≡◌, ⊤, ℕ, true, List, [], ◌∷◌, length, Option, Some, None, slice_get}
use Rattle.ir_model.specs.Values.{Cell, MemoryBlock}
use Rattle.mem_cells.specs.declared.blocks.Block.{Block}
use Rattle.mem_cells.specs.declared.cells.Cells.{Cells}
use Rattle.mem_cells.specs.declared.slots.Slot.{Slot}
use Rattle.mem_cells.specs.declared.memory.Mem.{Mem}
use Rattle.mem_cells.specs.Slots.{KeepCells}

-- a block is kept: whether it is live, its size, and as long as it is live its bytes
pub record KeepsBlock (b : Block) (kept : MemoryBlock) : Type 0 where
  pub live : b.live ≡ kept.live
  pub size : b.size ≡ length kept.cells
  pub cells : kept.live ≡ true → KeepCells b.slots.items kept.cells

-- each block is kept at its number
abbrev pub KeepBlocks : List Block → List MemoryBlock → Type 0
KeepBlocks [] [] = ⊤
KeepBlocks [] (m ∷ memory) = ⊥
KeepBlocks (b ∷ blocks) [] = ⊥
KeepBlocks (b ∷ blocks) (m ∷ memory) = KeepsBlock b m × KeepBlocks blocks memory

-- a memory is kept. A part of an address is kept without the address until the other seven stand beside it, and no load can tell
abbrev pub Shows : List MemoryBlock → Mem → Type 0
Shows memory mem = KeepBlocks mem.blocks.items memory

-- these are the bytes of a block that is still to be made
abbrev pub HasCells : List Cell → Cells → Type 0
HasCells bytes cells = KeepCells cells.slots.items bytes

-- how many blocks there are
abbrev pub block_count : Mem → ℕ
block_count mem = length mem.blocks.items

-- the slots of a block, if it is there
abbrev pub slots_of : Option Block → List Slot
slots_of None = []
slots_of (Some b) = b.slots.items

-- how many bytes a block has
abbrev pub slot_count : Mem → ℕ → ℕ
slot_count mem k = length (slots_of (slice_get mem.blocks.items k))
