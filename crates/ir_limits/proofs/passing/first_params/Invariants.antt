use Rattle.std.proofs.Common.{ℕ, List, [], ◌∷◌, length}
use Rattle.ir_tree.specs.Shape.{FunctionShape}
use Rattle.ir_tree.specs.ShapeOf.{function_shape}
use Rattle.ir_proper.specs.declared.Which.TheVariants.{Params}
use Rattle.ir_proper.specs.Limits.{most_of}
use Rattle.ir_limits.proofs.Above.{Rest}
use Rattle.ir_limits.proofs.passing.first_params.Given as goal

abbrev pub invariant-loop-f : goal.invariant-loop-f
invariant-loop-f l = (names : List (List ℕ)) → Rest (λ (f : FunctionShape). length f.params ∷ []) (function_shape names) (most_of Params) l.functions l.f-index
