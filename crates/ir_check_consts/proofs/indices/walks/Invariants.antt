use Rattle.std.proofs.Common.{◌≡◌, true, length, map}
use Rattle.ir_tree.specs.Known.{ty_known}
use Rattle.ir_tree.specs.Shape.{typed_row}
use Rattle.ir_tree.specs.ShapeOf.{module_shape, ty_shape, typed_shape}
use Rattle.ir_rules.specs.Constants.{Walks, row_numbers}
use Rattle.ir_check_consts.proofs.Walking.{WalkDecides}
use Rattle.ir_check_consts.proofs.indices.walks.Given as goal

abbrev pub invariant-loop-index : goal.invariant-loop-index
invariant-loop-index l =
    (ty_known (length l.m.names) l.at ≡ true)
    × WalkDecides (module_shape l.m).types (typed_shape l.m.names) l.indices l.index-index (ty_shape l.m.names l.at)
    (Walks (module_shape l.m).types (ty_shape l.m.names l.ty) (row_numbers (typed_row (map (typed_shape l.m.names) l.indices))))
