use Rattle.std.proofs.Common.{map, take}
use Rattle.ir_tree.specs.ShapeOf.{block_shape, module_shape}
use Rattle.ir_limits.specs.Sums.{HaveSum, IsTold}
use Rattle.ir_limits.specs.Shares.{TakesBytes}
use Rattle.ir_limits.proofs.frames.bytes_of_blocks.Given as goal

abbrev pub invariant-loop-block : goal.invariant-loop-block
invariant-loop-block l =
    IsTold (HaveSum (λ b. HaveSum (TakesBytes (module_shape l.m).types) b.insts) (map (block_shape l.m.names) (take l.block-index l.blocks))) l.total
