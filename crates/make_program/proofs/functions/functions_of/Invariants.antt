use Rattle.std.proofs.Common.{◌≡◌, map, take}
use Rattle.ir_tree.specs.ShapeOf.{function_shape as source_shape}
use Rattle.ir_program.specs.ProgramOf.{program_function}
use Rattle.program_tables.specs.Shapes.{function_shape}
use Rattle.program_steps.specs.Steps.{names_of}
use Rattle.program_consts.specs.Constants.{shape_of}
use Rattle.make_program.proofs.functions.functions_of.Given as goal

abbrev pub invariant-loop-at : goal.invariant-loop-at
invariant-loop-at l =
    map function_shape l.functions.items ≡ map (program_function (shape_of l.constants)) (map (source_shape (names_of l.constants.steps)) (take l.at l.constants.steps.«module».now.functions.items))
