use Rattle.std.proofs.Common.{map, take}
use Rattle.ir_tree.specs.ShapeOf.{inst_shape, module_shape}
use Rattle.ir_limits.specs.Sums.{HaveSum, IsTold}
use Rattle.ir_limits.specs.Shares.{TakesBytes}
use Rattle.ir_limits.proofs.frames.bytes_of_insts.Given as goal

abbrev pub invariant-loop-inst : goal.invariant-loop-inst
invariant-loop-inst l = IsTold (HaveSum (TakesBytes (module_shape l.m).types) (map (inst_shape l.m.names) (take l.inst-index l.insts))) l.total
