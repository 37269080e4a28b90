use Rattle.std.proofs.Common.{ℕ, List, map}
use Rattle.std.specs.List.{AllByRecursion}
use Rattle.ir_tree.specs.ShapeOf.{typed_shape}
use Rattle.ir_type_tests.proofs.Rests.{RestDecides}
use Rattle.ir_check_consts.proofs.Rows.{IsNumber}
use Rattle.ir_check_consts.proofs.indices.are_numbers.Given as goal

abbrev pub invariant-loop-index : goal.invariant-loop-index
invariant-loop-index l =
    (names : List (List ℕ)) → RestDecides IsNumber (typed_shape names) l.indices l.index-index (AllByRecursion IsNumber (map (typed_shape names) l.indices))
