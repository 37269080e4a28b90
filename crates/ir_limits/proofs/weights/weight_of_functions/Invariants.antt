use Rattle.std.proofs.Common.{◌≡◌, ℕ, List, map, take}
use Rattle.std.specs.Prelude.{sum_by}
use Rattle.ir_tree.specs.ShapeOf.{function_shape}
use Rattle.ir_proper.specs.Limits.{capped, function_weight}
use Rattle.ir_limits.proofs.weights.weight_of_functions.Given as goal

abbrev pub invariant-loop-f : goal.invariant-loop-f
invariant-loop-f l =
    (names : List (List ℕ)) → l.total ≡ capped (sum_by function_weight (map (function_shape names) (take l.f-index l.functions)))
