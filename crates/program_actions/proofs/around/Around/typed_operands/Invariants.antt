use Rattle.std.proofs.Common.{◌≡◌, map, take}
use Rattle.ir_tree.specs.ShapeOf.{ty_val_shape}
use Rattle.ir_program.specs.Operands.{typed_operand}
use Rattle.program_tables.specs.Shapes.{operand_shape}
use Rattle.program_actions.specs.Around.{around_of, names_around}
use Rattle.program_actions.proofs.around.Around.typed_operands.Given as goal

abbrev pub invariant-loop-x : goal.invariant-loop-x
invariant-loop-x l =
    map operand_shape l.operands.items ≡ map (typed_operand (around_of l.fn.self)) (map (ty_val_shape (names_around l.fn.self)) (take l.x-index l.row))
