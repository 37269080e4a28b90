use Rattle.std.proofs.Common.{◌≡◌, ◌++◌, map, take}
use Rattle.ir_tree.specs.ShapeOf.{ty_val_shape}
use Rattle.ir_program.specs.Strides.{scaled_only}
use Rattle.ir_program.specs.Operands.{typed_operand}
use Rattle.program_tables.specs.Shapes.{stride_shape, operand_shape}
use Rattle.program_actions.specs.Around.{around_of, names_around}
use Rattle.program_actions.proofs.around.Around.push_scaled.Given as goal

abbrev pub invariant-loop-k : goal.invariant-loop-k
invariant-loop-k l =
    map operand_shape l.operands.items ≡ map operand_shape l.fn.operands.items
    ++ scaled_only (map stride_shape l.strides) (map (typed_operand (around_of l.fn.self)) (map (ty_val_shape (names_around l.fn.self)) (take l.k l.indices)))
