-- The operands of an address under a table of names.
use Rattle.std.specs.Prelude.{ℕ, Bool, ◌&&◌, List, map}
use Rattle.std.specs.List.{list_all}
use Rattle.ir_tree.specs.ShapeOf.{ty_shape, typed_shape}
use Rattle.ir_tree.specs.Known.{ty_known, typed_known}
use Rattle.ir_grammar_consts.specs.Constants.{Operands as OperandShapes}
use Rattle.ir_read_consts.specs.declared.constants.Operands.{Operands}

abbrev pub operands_shape : List (List ℕ) → Operands → OperandShapes
operands_shape names x = (ty_shape names x.ty, (typed_shape names x.base, map (typed_shape names) x.indices.items))

abbrev pub operands_known : ℕ → Operands → Bool
operands_known count x = ty_known count x.ty && typed_known count x.base && list_all (typed_known count) x.indices.items
