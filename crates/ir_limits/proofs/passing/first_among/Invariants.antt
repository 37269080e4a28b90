use Rattle.std.proofs.Common.{take}
use Rattle.ir_tree.specs.ShapeOf.{module_shape}
use Rattle.ir_proper.specs.Limits.{AreKept}
use Rattle.ir_limits.proofs.passing.first_among.Given as goal

abbrev pub invariant-loop-which : goal.invariant-loop-which
invariant-loop-which l = AreKept (module_shape l.m) (take l.which-index l.limits)
