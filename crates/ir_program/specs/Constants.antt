-- Which value a constant is, and which bytes a global has at the start (Language Reference, "Constants" and "Global Variables").
use Rattle.std.specs.Prelude.{ℕ, suc, ◌-◌, Bool, if◌then◌else◌, nat_le, List, [], ◌∷◌, ◌++◌, map, length, replicate, Option, Some, None}
use Rattle.ir_tree.specs.Shape.{TyShape, integer, pointer, void, array, structure, named, ConstShape, number, boolean, null, undef, poison, zero_value, text, elements, fields, global, address, TypedShape, typed, TypedShapes, no_values, values, GlobalShape, ModuleShape}
use Rattle.ir_layout.specs.Layout.{field_start, field_end}
use Rattle.ir_rules.specs.Constants.{const_number}
use Rattle.ir_rules.specs.Things.{global_of}
use Rattle.ir_model.specs.declared.Access.{Access}
use Rattle.ir_model.specs.declared.Access.TheVariants.{I8, I16, I32, I64, Ptr}
use Rattle.ir_model.specs.Values.{Value, Integer, Address, Poison, Cell, Unknown, Byte, MemoryBlock, null_pointer, null_block, live_block}
use Rattle.ir_model.specs.Memory.{cells_of}
use Rattle.ir_model.specs.Integers.{bits_of}
use Rattle.ir_model.specs.Pointers.{walked}
use Rattle.ir_program.specs.Sizes.{layout_of, ty_size}
use Rattle.ir_program.specs.Strides.{width_of, Index, strides_of, scaled_only}

-- the address of the global of a number: block 0 is null
abbrev pub global_address : Option ℕ → Value
global_address None = Poison
global_address (Some g) = Address (record { block = suc g; offset = 0 })

-- the value of a type that is written without one: 0, or null
abbrev pub zero_of : TyShape → Value
zero_of (integer bits) = Integer bits 0
zero_of pointer = Address null_pointer
zero_of void = Poison
zero_of (array count element) = Poison
zero_of (structure row packed) = Poison
zero_of (named name) = Poison

-- the memory of a module as to sizes: a block for null and for each global
abbrev pub rooms : ModuleShape → List MemoryBlock
rooms m = null_block ∷ map (λ g. live_block (replicate (ty_size m.types g.ty) Unknown)) m.globals

-- a constant as an index
abbrev pub const_index : TypedShape → Index
const_index (typed t c) = record { width = width_of t; number = const_number c }

abbrev pub row_indices : TypedShapes → List Index
row_indices no_values = []
row_indices (values v vs) = const_index v ∷ row_indices vs

-- the value that a constant of a type is. `undef` is poison: this profile's choice. A text, an array or a structure is no value
unfoldable mutual
  pub const_value : ModuleShape → TyShape → ConstShape → Value
  const_value m t (number value) = Integer (width_of t) (bits_of (width_of t) value)
  const_value m t (boolean value) = Integer 1 (if value then 1 else 0)
  const_value m t null = Address null_pointer
  const_value m t undef = Poison
  const_value m t poison = Poison
  const_value m t zero_value = zero_of t
  const_value m t (text bytes) = Poison
  const_value m t (elements vs) = Poison
  const_value m t (fields vs packed) = Poison
  const_value m t (global name) = global_address (global_of m name)
  const_value m t (address inbounds u base indices) =
      let strides = strides_of m.types u (row_indices indices) in
      walked inbounds strides (rooms m) (typed_value m base) (scaled_only strides (row_values m indices))

  pub typed_value : ModuleShape → TypedShape → Value
  typed_value m (typed t c) = const_value m t c

  pub row_values : ModuleShape → TypedShapes → List Value
  row_values m no_values = []
  row_values m (values v vs) = typed_value m v ∷ row_values m vs

-- what is moved where a value of a type is loaded, stored, or lies in a global: an integer takes the least of 1, 2, 4 and 8 bytes
abbrev pub access_of : TyShape → Access
access_of (integer bits) = if nat_le bits 8 then I8 else if nat_le bits 16 then I16 else if nat_le bits 32 then I32 else I64
access_of pointer = Ptr
access_of void = I8
access_of (array count element) = I8
access_of (structure row packed) = I8
access_of (named name) = I8

-- the bytes of a constant value of a type
abbrev pub value_cells : ModuleShape → TyShape → ConstShape → List Cell
value_cells m t c = cells_of (access_of t) (const_value m t c)

-- bytes with poison after them, so many in all
abbrev pub padded : ℕ → List Cell → List Cell
padded size cells = cells ++ replicate (size - length cells) Unknown

-- the type that is stated with a constant
abbrev pub stated_ty : TypedShape → TyShape
stated_ty (typed t c) = t

-- the gap before a field of a structure, after what ends at an offset: poison
abbrev pub gap_before : ModuleShape → Bool → ℕ → TypedShape → List Cell
gap_before m packed at v = replicate (field_start packed at (layout_of m.types (stated_ty v)) - at) Unknown

-- where the field ends
abbrev pub end_of : ModuleShape → Bool → ℕ → TypedShape → ℕ
end_of m packed at v = field_end packed at (layout_of m.types (stated_ty v))

-- the bytes of a constant of a type. `zeroinitializer` is zero in the gaps of structures too; where a structure is written out its gaps are
-- poison (this profile's choice: the Language Reference says nothing of gaps)
unfoldable mutual
  pub const_cells : ModuleShape → TyShape → ConstShape → List Cell
  const_cells m t (number value) = value_cells m t (number value)
  const_cells m t (boolean value) = value_cells m t (boolean value)
  const_cells m t null = value_cells m t null
  const_cells m t undef = replicate (ty_size m.types t) Unknown
  const_cells m t poison = replicate (ty_size m.types t) Unknown
  const_cells m t zero_value = replicate (ty_size m.types t) (Byte 0)
  const_cells m t (text bytes) = map Byte bytes
  const_cells m t (elements vs) = elements_cells m vs
  const_cells m t (fields vs packed) = padded (ty_size m.types t) (fields_cells m packed 0 vs)
  const_cells m t (global name) = value_cells m t (global name)
  const_cells m t (address inbounds u base indices) = value_cells m t (address inbounds u base indices)

  pub typed_cells : ModuleShape → TypedShape → List Cell
  typed_cells m (typed t c) = const_cells m t c

  -- of elements in a row
  pub elements_cells : ModuleShape → TypedShapes → List Cell
  elements_cells m no_values = []
  elements_cells m (values v vs) = typed_cells m v ++ elements_cells m vs

  -- of fields, the first of which comes after what ends at an offset
  pub fields_cells : ModuleShape → Bool → ℕ → TypedShapes → List Cell
  fields_cells m packed at no_values = []
  fields_cells m packed at (values v vs) = gap_before m packed at v ++ typed_cells m v ++ fields_cells m packed (end_of m packed at v) vs

-- the bytes that a global has at the start
abbrev pub global_cells : ModuleShape → GlobalShape → List Cell
global_cells m g = const_cells m g.ty g.init
