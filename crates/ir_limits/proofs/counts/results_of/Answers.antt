use Rattle.std.proofs.Common.{List, map, sym, ◌∙◌, ap}
use Rattle.std.specs.Prelude.{sum_by}
use Rattle.ir_tree.specs.Shape.{BlockShape}
use Rattle.ir_tree.specs.ShapeOf.{block_shape, function_shape}
use Rattle.ir_tree.specs.declared.module.Block.{Block}
use Rattle.ir_proper.specs.Limits.{capped}
use Rattle.ir_limits.specs.Shares.{value_count}
use Rattle.ir_limits.proofs.Rooms.{results_counted}
use Rattle.ir_limits.proofs.counts.results_of.Goals as goal

pub returns : goal.returns
returns c names =
    c.results_of_blocks.ensures names
    ∙ ap (λ (bs : List Block). capped (sum_by (λ (b : BlockShape). sum_by value_count b.insts) (map (block_shape names) bs))) c.deref.ensures.value
    ∙ ap capped (sym (results_counted (function_shape names c.args.f.now)))
