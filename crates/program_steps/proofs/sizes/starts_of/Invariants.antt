use Rattle.ir_tree.specs.ShapeOf.{module_shape, ty_shape}
use Rattle.ir_program.specs.Sizes.{layout_of}
use Rattle.program_steps.proofs.Starts.{StartsLeft}
use Rattle.program_steps.proofs.sizes.starts_of.Given as goal

abbrev pub invariant-loop-field : goal.invariant-loop-field
invariant-loop-field l =
    StartsLeft (λ t. layout_of (module_shape l.m).types (ty_shape l.m.names t)) l.packed l.fields l.field-index l.at l.starts.items
