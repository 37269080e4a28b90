use Rattle.std.proofs.Common.{◌≡◌, map, take}
use Rattle.ir_tree.specs.ShapeOf.{ty_shape, phi_in_shape}
use Rattle.ir_program.specs.ProgramOf.{input_of}
use Rattle.program_tables.specs.Shapes.{input_shape}
use Rattle.program_actions.specs.Around.{around_of, names_around}
use Rattle.program_insts.proofs.phis.inputs_of.Given as goal

abbrev pub invariant-loop-x : goal.invariant-loop-x
invariant-loop-x l =
    map input_shape l.inputs.items ≡ map (input_of (around_of l.fn.around) (ty_shape (names_around l.fn.around) l.fn.ty)) (map (phi_in_shape (names_around l.fn.around)) (take l.x-index l.row))
