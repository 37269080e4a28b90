use Rattle.std.proofs.Common.{ℕ, List, [], ◌∷◌}
use Rattle.ir_tree.specs.Shape.{FunctionShape}
use Rattle.ir_tree.specs.ShapeOf.{function_shape}
use Rattle.ir_proper.specs.declared.Which.TheVariants.{Results}
use Rattle.ir_proper.specs.Limits.{capped, result_count, most_of}
use Rattle.ir_limits.proofs.Above.{Rest}
use Rattle.ir_limits.proofs.passing.first_results.Given as goal

abbrev pub invariant-loop-f : goal.invariant-loop-f
invariant-loop-f l =
    (names : List (List ℕ)) → Rest (λ (f : FunctionShape). capped (result_count f) ∷ []) (function_shape names) (most_of Results) l.functions l.f-index
