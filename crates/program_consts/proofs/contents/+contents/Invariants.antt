use Rattle.std.proofs.Common.{List, drop, map}
use Rattle.ir_model.specs.Values.{Cell}
use Rattle.ir_tree.specs.Shape.{typed_row}
use Rattle.ir_tree.specs.ShapeOf.{typed_shape}
use Rattle.ir_tree.specs.declared.types.Typed.{Typed}
use Rattle.ir_program.specs.Constants.{elements_cells}
use Rattle.program_steps.specs.Steps.{names_of}
use Rattle.program_consts.specs.Constants.{shape_of}
use Rattle.program_consts.specs.Pieces.{HasCells}
use Rattle.program_consts.proofs.Added.{Adds}
use Rattle.program_consts.proofs.Filled.{FieldsLeft}
use Rattle.program_consts.proofs.contents.+contents.Given as goal

abbrev pub invariant-push_elements-loop-element : goal.invariant-push_elements-loop-element
invariant-push_elements-loop-element l =
    let row = λ (xs : List Typed). typed_row (map (typed_shape (names_of l.constants.steps)) xs) in
    (cells : List Cell) → HasCells cells l.fn.out
    → Adds cells (elements_cells (shape_of l.constants) (row l.row)) (elements_cells (shape_of l.constants) (row (drop l.element-index l.row))) l.out

abbrev pub invariant-push_fields-loop-field : goal.invariant-push_fields-loop-field
invariant-push_fields-loop-field l =
    FieldsLeft (shape_of l.constants) (names_of l.constants.steps) l.packed l.row l.field-index l.at l.fn.out l.out
