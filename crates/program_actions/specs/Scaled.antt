-- Which steps have an operand.
use Rattle.std.specs.Prelude.{ℕ, Bool, true, false, List, Option, Some, None, slice_get}
use Rattle.program_tables.specs.declared.operations.Stride.{Stride}
use Rattle.program_tables.specs.declared.operations.Stride.TheVariants.{Scaled, Field}

-- a step past so many values has one, a step to a field has none
abbrev pub is_scaled : Option Stride → Bool
is_scaled None = false
is_scaled (Some (Scaled width size)) = true
is_scaled (Some (Field offset)) = false

-- the step of a number
abbrev pub is_scaled_at : List Stride → ℕ → Bool
is_scaled_at strides k = is_scaled (slice_get strides k)
