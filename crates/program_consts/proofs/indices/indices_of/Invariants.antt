use Rattle.std.proofs.Common.{◌≡◌, ℕ, List, map, take}
use Rattle.ir_tree.specs.Shape.{typed_row}
use Rattle.ir_tree.specs.ShapeOf.{typed_shape}
use Rattle.ir_program.specs.Constants.{row_indices}
use Rattle.program_steps.specs.Steps.{index_shape}
use Rattle.program_consts.proofs.indices.indices_of.Given as goal

abbrev pub invariant-loop-typed : goal.invariant-loop-typed
invariant-loop-typed l =
    (names : List (List ℕ)) → map index_shape l.indices.items ≡ row_indices (typed_row (map (typed_shape names) (take l.typed-index l.row)))
