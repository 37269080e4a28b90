-- Memory: its blocks, what a load finds there and what a store leaves (Language Reference, "load" and "store" instructions, and
-- "Pointer Aliasing Rules"). That bytes and the parts of addresses don't turn into each other is this profile's choice.
use Rattle.std.specs.Prelude.{ℕ, zero, suc, ◌+◌, ◌*◌, ◌==◌, nat_le, ◌&&◌, Bool, true, false, if◌then◌else◌, List, [], ◌∷◌, ◌++◌, map, length, replicate, Option, Some, None, slice_index_or, slice_set}
use Rattle.std.specs.Option.{option_map}
use Rattle.std.specs.List.{list_all}
use Rattle.std.specs.Int.{bytes_low_first}
use Rattle.std.specs.Simd.Lanes.{chunk, put_chunk}
use Rattle.ir_model.specs.declared.Why.{Why}
use Rattle.ir_model.specs.declared.Why.TheVariants as why
use Rattle.ir_model.specs.declared.Access.{Access}
use Rattle.ir_model.specs.declared.Access.TheVariants.{I8, I16, I32, I64, Ptr}
use Rattle.ir_model.specs.Values.{Pointer, Value, Integer, Address, Poison, Cell, Unknown, Byte, Part, MemoryBlock, Answer, Gives, Fails, null_pointer, is_null, live_block, no_block}

-- the block of a number
abbrev pub block_at : List MemoryBlock → ℕ → MemoryBlock
block_at memory k = slice_index_or memory k no_block

-- how many bytes it has
abbrev pub size_of : List MemoryBlock → ℕ → ℕ
size_of memory k = length (block_at memory k).cells

-- a block that is made: live, of so many bytes of poison. Its number is how many blocks there were
abbrev pub made : ℕ → List MemoryBlock → List MemoryBlock
made size memory = memory ++ live_block (replicate size Unknown) ∷ []

-- a block that is dead from now on; its bytes stay counted. No block lives again
abbrev pub ended : ℕ → List MemoryBlock → List MemoryBlock
ended k memory = slice_set memory k (record (block_at memory k) { live = false })

-- several blocks that are dead from now on
abbrev pub all_ended : List ℕ → List MemoryBlock → List MemoryBlock
all_ended [] memory = memory
all_ended (k ∷ ks) memory = all_ended ks (ended k memory)

-- how many bytes are moved
abbrev pub access_size : Access → ℕ
access_size I8 = 1
access_size I16 = 2
access_size I32 = 4
access_size I64 = 8
access_size Ptr = 8

-- why an access has no meaning, if it has none: its block is dead, or else not all of its bytes lie in the block
abbrev pub access_fault : Access → Pointer → List MemoryBlock → Option Why
access_fault access q memory =
    if (block_at memory q.block).live
    then if nat_le (q.offset + access_size access) (size_of memory q.block) then None else Some why.OutOfBounds
    else Some why.Dead

-- a value, unless there is a fault
abbrev pub unless_fault : Option Why → Value → Answer
unless_fault None v = Gives v
unless_fault (Some cause) v = Fails cause

-- the number that bytes spell, the low one first; none where one of them is no number
abbrev pub number_in : List Cell → Option ℕ
number_in [] = Some 0
number_in (Unknown ∷ cells) = None
number_in (Byte n ∷ cells) = option_map (λ rest. n + 256 * rest) (number_in cells)
number_in (Part q k ∷ cells) = None

-- an integer with this number, or poison
abbrev pub integer_of : ℕ → Option ℕ → Value
integer_of width None = Poison
integer_of width (Some n) = Integer width n

-- whether a byte is part k of the address
abbrev pub is_part : Pointer → ℕ → Cell → Bool
is_part q k Unknown = false
is_part q k (Byte n) = false
is_part q k (Part r j) = r.block == q.block && r.offset == q.offset && j == k

-- whether bytes are its parts in order, from part k on
abbrev pub are_parts : Pointer → ℕ → List Cell → Bool
are_parts q k [] = true
are_parts q k (c ∷ cells) = is_part q k c && are_parts q (suc k) cells

-- whether a byte is zero
abbrev pub is_zero : Cell → Bool
is_zero Unknown = false
is_zero (Byte n) = n == 0
is_zero (Part q k) = false

-- the address that eight bytes hold: the one whose parts they are in order, or null where all are zero, else poison
abbrev pub address_in : List Cell → Value
address_in [] = Poison
address_in (Unknown ∷ cells) = Poison
address_in (Byte n ∷ cells) = if list_all is_zero (Byte n ∷ cells) then Address null_pointer else Poison
address_in (Part q k ∷ cells) = if are_parts q 0 (Part q k ∷ cells) then Address q else Poison

-- the value that bytes hold
abbrev pub value_in : Access → List Cell → Value
value_in I8 cells = integer_of 8 (number_in cells)
value_in I16 cells = integer_of 16 (number_in cells)
value_in I32 cells = integer_of 32 (number_in cells)
value_in I64 cells = integer_of 64 (number_in cells)
value_in Ptr cells = address_in cells

-- the parts of an address from part k on
abbrev pub parts_from : ℕ → ℕ → Pointer → List Cell
parts_from k zero q = []
parts_from k (suc count) q = Part q k ∷ parts_from (suc k) count q

-- the bytes in which a value is kept: those of a number, its low byte first and the bits past its width zero; eight zero bytes of null, else
-- the parts of an address; poison bytes of poison. An integer has the width of its access
abbrev pub cells_of : Access → Value → List Cell
cells_of access (Integer width n) = map Byte (bytes_low_first 0 (access_size access) n)
cells_of access (Address q) = if is_null q then replicate 8 (Byte 0) else parts_from 0 8 q
cells_of access Poison = replicate (access_size access) Unknown

-- the bytes at an address that an access reads
abbrev pub cells_at : Access → Pointer → List MemoryBlock → List Cell
cells_at access q memory = chunk q.offset (access_size access) (block_at memory q.block).cells

-- what a load at an address answers
abbrev pub load_at : Access → Pointer → List MemoryBlock → Answer
load_at access q memory = unless_fault (access_fault access q memory) (value_in access (cells_at access q memory))

-- a block with these bytes in the place of as many from an offset on
abbrev pub overwritten : ℕ → List Cell → MemoryBlock → MemoryBlock
overwritten offset cells b = record b { cells = put_chunk offset b.cells cells }

-- the memory that a store of a value at an address leaves, where the access has no fault: all other bytes and blocks are as before
abbrev pub stored : Access → Value → Pointer → List MemoryBlock → List MemoryBlock
stored access v q memory = slice_set memory q.block (overwritten q.offset (cells_of access v) (block_at memory q.block))
