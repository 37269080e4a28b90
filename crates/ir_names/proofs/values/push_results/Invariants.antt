use Rattle.std.proofs.Common.{◌≡◌, ◌++◌, ℕ, List, map, drop, true}
use Rattle.std.specs.List.{list_all}
use Rattle.ir_tree.specs.Known.{inst_known}
use Rattle.ir_tree.specs.ShapeOf.{inst_shape}
use Rattle.ir_rules.specs.Values.{results_from}
use Rattle.ir_names.specs.Results.{value_shape, value_known}
use Rattle.ir_names.proofs.values.push_results.Given as goal

abbrev pub invariant-loop-k : goal.invariant-loop-k
invariant-loop-k l = record {
  shape :
      (names : List (List ℕ)) → map (value_shape names) l.to.items ++ results_from l.block l.k (map (inst_shape names) (drop l.k l.insts))
      ≡ map (value_shape names) l.initial.to.items ++ results_from l.block 0 (map (inst_shape names) l.insts);
  known :
      (count : ℕ) → list_all (value_known count) l.initial.to.items ≡ true → list_all (inst_known count) l.insts ≡ true
      → list_all (value_known count) l.to.items ≡ true;
}
