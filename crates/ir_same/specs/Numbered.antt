-- What a type and a constant are by the numbers of their names: their shapes with each name's number in place of its bytes.
use Rattle.std.specs.Prelude.{List, [], ◌∷◌, ℕ}
use Rattle.ir_tree.specs.Shape.{TyShape, integer, pointer, void, array, structure, named, ty_row, ConstShape, number, boolean, null, undef, poison, zero_value, text, elements, fields, global, address, TypedShape, typed, typed_row}
use Rattle.ir_tree.specs.declared.names.NameId.{NameId}
use Rattle.ir_tree.specs.declared.types.Ty.{Ty}
use Rattle.ir_tree.specs.declared.types.Ty.TheOpen as ty
use Rattle.ir_tree.specs.declared.types.Ty.TheFolds.{fold-Ty}
use Rattle.ir_tree.specs.declared.types.Const.{Const}
use Rattle.ir_tree.specs.declared.types.Const.TheOpen as constant
use Rattle.ir_tree.specs.declared.types.Const.TheFolds.{fold-Const, fold-Typed}
use Rattle.ir_tree.specs.declared.types.Typed.{Typed}

-- a name's number, where a shape has the bytes of the name
abbrev pub numbered_name : NameId → List ℕ
numbered_name id = id.0 ∷ []

-- a type, by its parts
abbrev pub numbered_ty_step : ty.Ty-F TyShape → TyShape
numbered_ty_step (ty.Int bits) = integer bits
numbered_ty_step ty.Ptr = pointer
numbered_ty_step ty.Void = void
numbered_ty_step (ty.Array count element) = array count element.value
numbered_ty_step (ty.Struct v packed) = structure (ty_row v.items) packed
numbered_ty_step (ty.Named id) = named (numbered_name id)

-- a type by the numbers of its names
abbrev pub numbered_ty : Ty → TyShape
numbered_ty = fold-Ty TyShape numbered_ty_step

-- a constant, by its parts
abbrev pub numbered_const_step : constant.Const-F ConstShape TypedShape → ConstShape
numbered_const_step (constant.Int value) = number value
numbered_const_step (constant.Bool value) = boolean value
numbered_const_step constant.Null = null
numbered_const_step constant.Undef = undef
numbered_const_step constant.Poison = poison
numbered_const_step constant.Zero = zero_value
numbered_const_step (constant.Text v) = text v.items
numbered_const_step (constant.Array v) = elements (typed_row v.items)
numbered_const_step (constant.Struct v packed) = fields (typed_row v.items) packed
numbered_const_step (constant.Global id) = global (numbered_name id)
numbered_const_step (constant.Gep inbounds t base v) = address inbounds (numbered_ty t) base.value (typed_row v.items)

-- a constant with its type, by its parts
abbrev pub numbered_typed_step : constant.Typed-F ConstShape TypedShape → TypedShape
numbered_typed_step v = typed (numbered_ty v.ty) v.value

-- a constant by the numbers of its names
abbrev pub numbered_const : Const → ConstShape
numbered_const = fold-Const ConstShape TypedShape numbered_const_step numbered_typed_step

-- a constant with its type, by the numbers of their names
abbrev pub numbered_typed : Typed → TypedShape
numbered_typed = fold-Typed ConstShape TypedShape numbered_const_step numbered_typed_step
