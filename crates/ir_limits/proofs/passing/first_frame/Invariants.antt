use Rattle.std.proofs.Common.{◌≡◌, ℕ, List, drop}
use Rattle.ir_tree.specs.ShapeOf.{module_shape}
use Rattle.ir_proper.specs.declared.Which.TheVariants.{Frame}
use Rattle.ir_proper.specs.Limits.{most_of, HaveFrames}
use Rattle.ir_limits.specs.Passing.{first_above}
use Rattle.ir_limits.proofs.passing.first_frame.Given as goal

abbrev pub invariant-loop-f : goal.invariant-loop-f
invariant-loop-f l =
    (counts : List ℕ) → HaveFrames (module_shape l.m).types (module_shape l.m).functions counts
    → first_above (most_of Frame) counts ≡ first_above (most_of Frame) (drop l.f-index counts)
