use Rattle.std.proofs.Common.{◌≡◌, ◌++◌, drop, map}
use Rattle.std.specs.List.{flat_map}
use Rattle.ir_tree.specs.ShapeOf.{block_shape}
use Rattle.ir_print.specs.Texts.{block_text}
use Rattle.ir_print.proofs.blocks.push_blocks.Given as goal

abbrev pub invariant-loop-block : goal.invariant-loop-block
invariant-loop-block l =
    l.to.items ++ flat_map block_text (map (block_shape l.names) (drop l.block-index l.blocks))
    ≡ l.initial.to.items ++ flat_map block_text (map (block_shape l.names) l.blocks)
