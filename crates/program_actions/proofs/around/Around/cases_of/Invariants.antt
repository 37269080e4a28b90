use Rattle.std.proofs.Common.{◌≡◌, map, take}
use Rattle.ir_tree.specs.ShapeOf.{case_shape as source_shape}
use Rattle.ir_program.specs.Operands.{program_case}
use Rattle.program_tables.specs.Shapes.{case_shape}
use Rattle.program_actions.specs.Around.{around_of, names_around}
use Rattle.program_actions.proofs.around.Around.cases_of.Given as goal

abbrev pub invariant-loop-case : goal.invariant-loop-case
invariant-loop-case l =
    map case_shape l.cases.items ≡ map (program_case (around_of l.fn.self) l.fn.width) (map (source_shape (names_around l.fn.self)) (take l.case-index l.row))
