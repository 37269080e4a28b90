use Rattle.std.proofs.Common.{ℕ, List}
use Rattle.std.specs.Prelude.{flat_map}
use Rattle.ir_tree.specs.Shape.{FunctionShape}
use Rattle.ir_tree.specs.ShapeOf.{function_shape}
use Rattle.ir_proper.specs.declared.Which.TheVariants.{Cases}
use Rattle.ir_proper.specs.Limits.{case_counts, most_of}
use Rattle.ir_limits.proofs.Above.{Rest}
use Rattle.ir_limits.proofs.passing.first_cases.Given as goal

abbrev pub invariant-loop-f : goal.invariant-loop-f
invariant-loop-f l =
    (names : List (List ℕ))
    → Rest (λ (f : FunctionShape). flat_map (λ b. flat_map (λ x. case_counts x.body) b.insts) f.blocks) (function_shape names) (most_of Cases)
    l.functions l.f-index
