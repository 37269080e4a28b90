-- What programs compute with, and what memory is made of.
use Rattle.std.specs.Prelude.{ℕ, ◌==◌, ◌&&◌, Bool, true, false, List, []}
use Rattle.ir_model.specs.declared.Why.{Why}

-- an address: the number of a block of memory, and a distance in bytes from its start, below 2^64. A distance that counts back is taken
-- modulo 2^64 (this profile's choice: the Language Reference has no numbers for blocks)
pub record Pointer : Type 0 where
  pub block : ℕ
  pub offset : ℕ

-- a value: a number below 2^width, an address, or poison (Language Reference, "Poison Values"). `undef` is poison too: this profile's
-- choice
pub data Value : Type 0 where
  Integer : (width number : ℕ) → Value
  Address : (pointer : Pointer) → Value
  Poison : Value

-- what one byte of memory holds: poison, a number below 256, or of an address the byte with this index, from 0 to 7
pub data Cell : Type 0 where
  Unknown : Cell
  Byte : (number : ℕ) → Cell
  Part : (pointer : Pointer) (index : ℕ) → Cell

-- a block of memory: whether it is still live, and its bytes. Memory is a list of blocks, and a block keeps its number in it
pub record MemoryBlock : Type 0 where
  pub live : Bool
  pub cells : List Cell

-- what an operation answers: a value, or why the program has no meaning
pub data Answer : Type 0 where
  Gives : (value : Value) → Answer
  Fails : (why : Why) → Answer

-- a live block with these bytes
abbrev pub live_block : List Cell → MemoryBlock
live_block cells = record { live = true; cells = cells }

-- null: the start of block 0, which has no bytes and stays live
abbrev pub null_pointer : Pointer
null_pointer = record { block = 0; offset = 0 }

abbrev pub null_block : MemoryBlock
null_block = live_block []

-- whether an address is null
abbrev pub is_null : Pointer → Bool
is_null q = q.block == 0 && q.offset == 0

-- what stands for a block that isn't there
abbrev pub no_block : MemoryBlock
no_block = record { live = false; cells = [] }
