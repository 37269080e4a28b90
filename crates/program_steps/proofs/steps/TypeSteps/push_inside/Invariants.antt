use Rattle.std.proofs.Common.{◌≡◌, ◌++◌, drop, map}
use Rattle.ir_tree.specs.Shape.{TyShape}
use Rattle.ir_layout.specs.Rules.{IsSized}
use Rattle.ir_rules.specs.Constants.{Walks}
use Rattle.ir_program.specs.Strides.{strides_inside}
use Rattle.program_tables.specs.Shapes.{stride_shape}
use Rattle.program_steps.specs.Laid.{laid_of}
use Rattle.program_steps.specs.LaidShapes.{laid_shape}
use Rattle.program_steps.specs.Steps.{names_of, types_of, index_shape}
use Rattle.program_steps.proofs.Walked.{Reached}
use Rattle.program_steps.proofs.steps.TypeSteps.push_inside.Given as goal

abbrev pub invariant-loop-index : goal.invariant-loop-index
invariant-loop-index l =
    (t : TyShape) → laid_shape (names_of l.self) l.start ≡ laid_of (types_of l.self) t → IsSized (types_of l.self) t
    → Walks (types_of l.self) t (map (λ i. i.number) l.indices)
    → Reached l.self l.at (drop l.index-index l.indices) (map stride_shape l.strides.items)
    (map stride_shape l.fn.strides.items ++ strides_inside (types_of l.self) t (map index_shape l.indices))
