-- Steps by indices that are numbers.
use Rattle.std.specs.Prelude.{◌≡◌, ℕ, ℤ, pos, ◌+◌, ◌*◌, List, [], ◌∷◌, Some, unwrap_or}
use Rattle.std.specs.List.{AllByRecursion, AllZip}
use Rattle.ir_model.specs.Values.{Value, Integer}
use Rattle.ir_model.specs.Integers.{bits_of}
use Rattle.ir_model.specs.Pointers.{Stride, Scaled, Field, extended}
use Rattle.ir_arith.specs.Widths.{IsWidth}
use Rattle.ir_program.specs.Strides.{Index}

-- the number of an index, as its bits
abbrev pub index_bits : Index → ℕ
index_bits i = bits_of i.width (unwrap_or i.number (pos 0))

-- the value of an index
abbrev pub index_value : Index → Value
index_value i = Integer i.width (index_bits i)

-- an index is a number of 1 to 64 bits
pub record IsNumbered (i : Index) : Type 0 where
  pub bits : IsWidth i.width
  pub value : ℤ
  pub is_number : i.number ≡ Some value

-- a step counts an index of this width, or none
abbrev pub Counts : Stride → Index → Type 0
Counts (Scaled width size) i = width ≡ i.width
Counts (Field offset) i = Unit {0}

-- steps by indices, each of which is a number
pub record AreSteps (strides : List Stride) (indices : List Index) : Type 0 where
  pub numbered : AllByRecursion IsNumbered indices
  pub counted : AllZip Counts strides indices

-- how far a step leads by an index
abbrev pub step_length : Stride → Index → ℕ
step_length (Scaled width size) i = extended width (index_bits i) * size
step_length (Field offset) i = offset

-- how far steps lead together
abbrev pub whole_length : List Stride → List Index → ℕ
whole_length [] indices = 0
whole_length (stride ∷ strides) [] = 0
whole_length (stride ∷ strides) (i ∷ indices) = step_length stride i + whole_length strides indices
