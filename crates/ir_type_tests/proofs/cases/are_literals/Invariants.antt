use Rattle.std.proofs.Common.{ℕ, List, map}
use Rattle.std.specs.List.{AllByRecursion}
use Rattle.ir_tree.specs.ShapeOf.{case_shape}
use Rattle.ir_rules.specs.Instructions.{IsCase}
use Rattle.ir_type_tests.proofs.Rests.{RestDecides}
use Rattle.ir_type_tests.proofs.cases.are_literals.Given as goal

abbrev pub invariant-loop-case : goal.invariant-loop-case
invariant-loop-case l =
    (names : List (List ℕ)) → RestDecides (IsCase l.width) (case_shape names) l.cases l.case-index (AllByRecursion (IsCase l.width) (map (case_shape names) l.cases))
