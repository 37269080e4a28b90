use Rattle.std.proofs.Common.{ℕ, List}
use Rattle.std.specs.Prelude.{flat_map}
use Rattle.ir_tree.specs.Shape.{BlockShape}
use Rattle.ir_tree.specs.ShapeOf.{block_shape}
use Rattle.ir_proper.specs.declared.Which.TheVariants.{Cases}
use Rattle.ir_proper.specs.Limits.{case_counts, most_of}
use Rattle.ir_limits.proofs.Above.{Rest}
use Rattle.ir_limits.proofs.passing.first_cases_of_blocks.Given as goal

abbrev pub invariant-loop-block : goal.invariant-loop-block
invariant-loop-block l =
    (names : List (List ℕ))
    → Rest (λ (b : BlockShape). flat_map (λ x. case_counts x.body) b.insts) (block_shape names) (most_of Cases) l.blocks l.block-index
