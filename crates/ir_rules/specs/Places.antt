-- The places of a module at which something can be at fault, and where they stand in the text.
use Rattle.std.specs.Prelude.{ℕ, Option, slice_get}
use Rattle.std.specs.Option.{option_and_then}
use Rattle.ir_tree.specs.declared.parsed.Spots.{Spots}

-- an item by its number, or an instruction by those of its function, of its block and in the block
pub data Place : Type 0 where
  type_at : (number : ℕ) → Place
  global_at : (number : ℕ) → Place
  declare_at : (number : ℕ) → Place
  function_at : (number : ℕ) → Place
  inst_at_place : (function block number : ℕ) → Place

-- the byte offset of the first token at a place
abbrev pub spot_of : Spots → Place → Option ℕ
spot_of s (type_at k) = slice_get s.types.items k
spot_of s (global_at k) = slice_get s.globals.items k
spot_of s (declare_at k) = slice_get s.declares.items k
spot_of s (function_at k) = slice_get s.functions.items k
spot_of s (inst_at_place f b i) =
    option_and_then (λ block. slice_get block.items i) (option_and_then (λ blocks. slice_get blocks.items b) (slice_get s.insts.items f))
