use Rattle.std.proofs.Common.{ℕ, List, map}
use Rattle.std.specs.List.{AllByRecursion}
use Rattle.ir_tree.specs.Shape.{ParamShape}
use Rattle.ir_tree.specs.ShapeOf.{param_shape}
use Rattle.ir_rules.specs.Constants.{IsScalar}
use Rattle.ir_type_tests.proofs.Rests.{RestDecides}
use Rattle.ir_types.proofs.declares.have_scalars.Given as goal

abbrev pub invariant-loop-param : goal.invariant-loop-param
invariant-loop-param l =
    (names : List (List ℕ)) → RestDecides (λ (p : ParamShape). IsScalar p.ty) (param_shape names) l.params l.param-index
    (AllByRecursion (λ (p : ParamShape). IsScalar p.ty) (map (param_shape names) l.params))
