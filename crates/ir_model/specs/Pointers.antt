-- Comparisons of addresses, and steps from one to another (Language Reference, "icmp" and "getelementptr").
use Rattle.std.specs.Prelude.{ℕ, ◌+◌, ◌*◌, ◌%◌, ◌^◌, ◌==◌, nat_lt, nat_le, Bool, not, ◌&&◌, ◌||◌, if◌then◌else◌, List, [], ◌∷◌, Option, Some, None}
use Rattle.std.specs.Option.{option_map}
use Rattle.ir_tree.specs.declared.module.Pred.{Pred}
use Rattle.ir_tree.specs.declared.module.Pred.TheVariants.{Eq, Ne, Ugt, Uge, Ult, Ule, Sgt, Sge, Slt, Sle}
use Rattle.ir_model.specs.declared.Why.TheVariants as why
use Rattle.ir_model.specs.Values.{Pointer, Value, Integer, Address, Poison, MemoryBlock, Answer, Gives, Fails, is_null}
use Rattle.ir_model.specs.Memory.{block_at, size_of}
use Rattle.ir_model.specs.Integers.{signed, bits_of, holds, truth}

-- whether an address lies in its block or just past its end; the block may be dead
abbrev pub is_in_block : List MemoryBlock → Pointer → Bool
is_in_block memory q = nat_le q.offset (size_of memory q.block)

-- whether an address is that of a byte of a live block
abbrev pub is_at_byte : List MemoryBlock → Pointer → Bool
is_at_byte memory q = (block_at memory q.block).live && nat_lt q.offset (size_of memory q.block)

-- whether an address can be told from those of other blocks: null, and the address of a byte that is live
abbrev pub is_told_apart : List MemoryBlock → Pointer → Bool
is_told_apart memory q = is_null q || is_at_byte memory q

-- how addresses of two blocks compare: they are not equal, and have no order
abbrev pub compared_apart : Pred → Answer
compared_apart Eq = Gives (Integer 1 0)
compared_apart Ne = Gives (Integer 1 1)
compared_apart Ugt = Fails why.Compare
compared_apart Uge = Fails why.Compare
compared_apart Ult = Fails why.Compare
compared_apart Ule = Fails why.Compare
compared_apart Sgt = Fails why.Compare
compared_apart Sge = Fails why.Compare
compared_apart Slt = Fails why.Compare
compared_apart Sle = Fails why.Compare

-- a comparison of two addresses. Those of one block compare as their offsets do. This profile's choice is where it has no answer: the
-- Language Reference leaves the numbers of addresses open, and here no answer hangs on them
abbrev pub compared : Pred → List MemoryBlock → Pointer → Pointer → Answer
compared predicate memory x y =
    if x.block == y.block
    then if is_in_block memory x && is_in_block memory y then Gives (truth (holds predicate 64 x.offset y.offset)) else Fails why.Compare
    else if is_told_apart memory x && is_told_apart memory y then compared_apart predicate else Fails why.Compare

-- a step of a `getelementptr`: an index of a width, times the size of what it counts; or the offset of a field, which has no operand
pub data Stride : Type 0 where
  Scaled : (width size : ℕ) → Stride
  Field : (offset : ℕ) → Stride

-- an index as 64 bits, extended by its sign
abbrev pub extended : ℕ → ℕ → ℕ
extended width n = bits_of 64 (signed width n)

-- how far steps lead, modulo 2^64, with a value for each index; nowhere where an index is poison
abbrev pub distance : List Stride → List Value → Option ℕ
distance [] [] = Some 0
distance [] (v ∷ vs) = None
distance (Field offset ∷ strides) vs = option_map (λ rest. offset + rest) (distance strides vs)
distance (Scaled width size ∷ strides) [] = None
distance (Scaled width size ∷ strides) (Integer w n ∷ vs) = option_map (λ rest. extended width n * size + rest) (distance strides vs)
distance (Scaled width size ∷ strides) (Address q ∷ vs) = None
distance (Scaled width size ∷ strides) (Poison ∷ vs) = None

-- the address at a distance
abbrev pub moved : Pointer → ℕ → Pointer
moved q far = record q { offset = (q.offset + far) % 2 ^ 64 }

-- an address at a distance; with `inbounds` poison where either doesn't lie in the block or just past its end. An offset that counts
-- back is above 2^63, and no block is so large
abbrev pub stepped : Bool → List MemoryBlock → Pointer → ℕ → Value
stepped inbounds memory q far =
    if inbounds && not (is_in_block memory q && is_in_block memory (moved q far)) then Poison else Address (moved q far)

-- an address after steps of some distance, if there is one
abbrev pub stepped_if : Bool → List MemoryBlock → Pointer → Option ℕ → Value
stepped_if inbounds memory q None = Poison
stepped_if inbounds memory q (Some far) = stepped inbounds memory q far

-- where steps lead from a value: without an index to the value itself, from poison to poison
abbrev pub walked : Bool → List Stride → List MemoryBlock → Value → List Value → Value
walked inbounds [] memory base indices = base
walked inbounds (stride ∷ strides) memory (Integer w n) indices = Poison
walked inbounds (stride ∷ strides) memory (Address q) indices = stepped_if inbounds memory q (distance (stride ∷ strides) indices)
walked inbounds (stride ∷ strides) memory Poison indices = Poison
