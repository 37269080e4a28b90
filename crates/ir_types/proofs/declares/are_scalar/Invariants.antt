use Rattle.std.proofs.Common.{ℕ, List, map}
use Rattle.std.specs.List.{AllByRecursion}
use Rattle.ir_tree.specs.ShapeOf.{ty_shape}
use Rattle.ir_rules.specs.Constants.{IsScalar}
use Rattle.ir_type_tests.proofs.Rests.{RestDecides}
use Rattle.ir_types.proofs.declares.are_scalar.Given as goal

abbrev pub invariant-loop-ty : goal.invariant-loop-ty
invariant-loop-ty l =
    (names : List (List ℕ)) → RestDecides IsScalar (ty_shape names) l.types l.ty-index (AllByRecursion IsScalar (map (ty_shape names) l.types))
