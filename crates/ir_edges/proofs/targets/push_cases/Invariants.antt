use Rattle.std.proofs.Common.{◌≡◌, ◌++◌, ℕ, List, map, drop, true}
use Rattle.std.specs.List.{list_all}
use Rattle.ir_tree.specs.Known.{name_known, case_known}
use Rattle.ir_tree.specs.ShapeOf.{name_shape, case_shape}
use Rattle.ir_edges.proofs.targets.push_cases.Given as goal

abbrev pub invariant-loop-case : goal.invariant-loop-case
invariant-loop-case l = record {
  shape :
      (names : List (List ℕ)) → map (name_shape names) l.to.items ++ map (λ c. c.to) (map (case_shape names) (drop l.case-index l.cases))
      ≡ map (name_shape names) l.initial.to.items ++ map (λ c. c.to) (map (case_shape names) l.cases);
  known :
      (count : ℕ) → list_all (name_known count) l.initial.to.items ≡ true → list_all (case_known count) l.cases ≡ true
      → list_all (name_known count) l.to.items ≡ true;
}
