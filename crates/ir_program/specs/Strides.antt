-- Where the indices of a `getelementptr` lead, as steps of numbers (Language Reference, "getelementptr").
use Rattle.std.specs.Prelude.{ℕ, ℤ, pos, negsuc, List, [], ◌∷◌, Option, Some, None, unwrap_or}
use Rattle.ir_tree.specs.Shape.{TyShape, integer, pointer, void, array, structure, named, NamedTyShape}
use Rattle.ir_layout.specs.Layout.{field_offset}
use Rattle.ir_rules.specs.Constants.{row_at}
use Rattle.ir_model.specs.Pointers.{Stride, Scaled, Field}
use Rattle.ir_program.specs.Sizes.{row_layouts, ty_size, opened}

-- the width of an integer type
abbrev pub width_of : TyShape → ℕ
width_of (integer bits) = bits
width_of pointer = 0
width_of void = 0
width_of (array count element) = 0
width_of (structure fields packed) = 0
width_of (named name) = 0

-- an index: the width of its type, and its number if it is a constant one
pub record Index : Type 0 where
  pub width : ℕ
  pub number : Option ℤ

-- the field of a structure that an index is: its number
abbrev pub field_number : Option ℤ → ℕ
field_number (Some (pos k)) = k
field_number (Some (negsuc k)) = 0
field_number None = 0

-- the step of an index into a type that is no name: past so many elements of an array, or to a field of a structure
abbrev pub stride_into : List NamedTyShape → TyShape → Index → Stride
stride_into ts (array count element) i = Scaled i.width (ty_size ts element)
stride_into ts (structure row packed) i = Field (field_offset packed 0 (row_layouts ts row) (field_number i.number))
stride_into ts (integer bits) i = Scaled i.width 0
stride_into ts pointer i = Scaled i.width 0
stride_into ts void i = Scaled i.width 0
stride_into ts (named name) i = Scaled i.width 0

-- the type to which it leads
abbrev pub type_inside : TyShape → Index → TyShape
type_inside (array count element) i = element
type_inside (structure row packed) i = unwrap_or (row_at row (field_number i.number)) void
type_inside (integer bits) i = void
type_inside pointer i = void
type_inside void i = void
type_inside (named name) i = void

-- the steps of indices into a type, one after the other
abbrev pub strides_inside : List NamedTyShape → TyShape → List Index → List Stride
strides_inside ts t [] = []
strides_inside ts t (i ∷ indices) = stride_into ts (opened ts t) i ∷ strides_inside ts (type_inside (opened ts t) i) indices

-- the steps of a `getelementptr` by a type: the first index counts values of the type, and the others lead into it
abbrev pub strides_of : List NamedTyShape → TyShape → List Index → List Stride
strides_of ts t [] = []
strides_of ts t (i ∷ indices) = Scaled i.width (ty_size ts t) ∷ strides_inside ts t indices

-- of what stands beside steps, that which stands beside an index that is counted: a field's has been turned into its offset
abbrev pub scaled_only : {A : Type 0} → List Stride → List A → List A
scaled_only [] xs = []
scaled_only (stride ∷ strides) [] = []
scaled_only (Scaled width size ∷ strides) (x ∷ xs) = x ∷ scaled_only strides xs
scaled_only (Field offset ∷ strides) (x ∷ xs) = scaled_only strides xs
