use Rattle.std.proofs.Common.{◌≡◌, ℕ, List, map, take}
use Rattle.std.specs.Prelude.{sum_by}
use Rattle.ir_tree.specs.ShapeOf.{block_shape}
use Rattle.ir_proper.specs.Limits.{capped}
use Rattle.ir_limits.specs.Shares.{inst_weight}
use Rattle.ir_limits.proofs.weights.weight_of_blocks.Given as goal

abbrev pub invariant-loop-block : goal.invariant-loop-block
invariant-loop-block l =
    (names : List (List ℕ)) → l.total ≡ capped (sum_by (λ b. sum_by inst_weight b.insts) (map (block_shape names) (take l.block-index l.blocks)))
