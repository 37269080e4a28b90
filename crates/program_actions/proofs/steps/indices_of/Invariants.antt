use Rattle.std.proofs.Common.{◌≡◌, ℕ, List, map, take}
use Rattle.ir_tree.specs.ShapeOf.{ty_val_shape}
use Rattle.ir_program.specs.Operands.{operand_index}
use Rattle.program_steps.specs.Steps.{index_shape}
use Rattle.program_actions.proofs.steps.indices_of.Given as goal

abbrev pub invariant-loop-x : goal.invariant-loop-x
invariant-loop-x l = (names : List (List ℕ)) → map index_shape l.indices.items ≡ map operand_index (map (ty_val_shape names) (take l.x-index l.row))
