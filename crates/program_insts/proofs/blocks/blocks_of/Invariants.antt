use Rattle.std.proofs.Common.{map, drop, length}
use Rattle.ir_tree.specs.ShapeOf.{block_shape as source_shape}
use Rattle.program_tables.specs.Shapes.{block_shape}
use Rattle.program_actions.specs.Around.{around_of, names_around}
use Rattle.program_insts.proofs.SoFar.{AllSoFar}
use Rattle.program_insts.proofs.blocks.blocks_of.Given as goal

abbrev pub invariant-loop-source : goal.invariant-loop-source
invariant-loop-source l =
    AllSoFar (around_of l.fn.around) (length l.fn.around.function.now.params.items) (map (source_shape (names_around l.fn.around)) l.fn.around.function.now.blocks.items)
    (map (source_shape (names_around l.fn.around)) (drop l.source-index l.fn.around.function.now.blocks.items)) l.next (map block_shape l.blocks.items)
