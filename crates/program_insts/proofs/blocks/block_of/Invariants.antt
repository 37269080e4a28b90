use Rattle.std.proofs.Common.{map, drop}
use Rattle.ir_tree.specs.ShapeOf.{inst_shape}
use Rattle.program_tables.specs.Shapes.{block_shape}
use Rattle.program_actions.specs.Around.{around_of, names_around}
use Rattle.program_insts.proofs.SoFar.{SoFar}
use Rattle.program_insts.proofs.blocks.block_of.Given as goal

abbrev pub invariant-loop-inst : goal.invariant-loop-inst
invariant-loop-inst l =
    SoFar (around_of l.fn.around) l.fn.next (map (inst_shape (names_around l.fn.around)) l.fn.source.insts.items)
    (map (inst_shape (names_around l.fn.around)) (drop l.inst-index l.fn.source.insts.items)) l.next (block_shape l.block)
