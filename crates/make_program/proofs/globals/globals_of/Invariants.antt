use Rattle.std.proofs.Common.{◌≡◌, map, take}
use Rattle.std.specs.List.{AllByRecursion}
use Rattle.ir_tree.specs.ShapeOf.{global_shape}
use Rattle.ir_program.specs.Bytes.{HasByte}
use Rattle.ir_program.specs.Constants.{global_cells}
use Rattle.program_steps.specs.Steps.{names_of}
use Rattle.program_consts.specs.Constants.{shape_of}
use Rattle.make_program.specs.Made.{all_cells}
use Rattle.make_program.proofs.globals.globals_of.Given as goal

abbrev pub invariant-loop-global : goal.invariant-loop-global
invariant-loop-global l = record {
  cells : all_cells l.globals.items ≡ map (global_cells (shape_of l.fn.constants)) (map (global_shape (names_of l.fn.constants.steps)) (take l.global-index l.fn.constants.steps.«module».now.globals.items));
  bytes : AllByRecursion (AllByRecursion HasByte) (all_cells l.globals.items);
}
