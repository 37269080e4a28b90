use Rattle.std.proofs.Common.{◌≡◌, ◌++◌, ℕ, List, map, drop, true}
use Rattle.std.specs.List.{list_all}
use Rattle.ir_tree.specs.Known.{block_known}
use Rattle.ir_tree.specs.ShapeOf.{block_shape}
use Rattle.ir_rules.specs.Values.{all_results_from}
use Rattle.ir_names.specs.Results.{value_shape, value_known}
use Rattle.ir_names.proofs.values.push_all_results.Given as goal

abbrev pub invariant-loop-k : goal.invariant-loop-k
invariant-loop-k l = record {
  shape :
      (names : List (List ℕ)) → map (value_shape names) l.to.items ++ all_results_from l.k (map (block_shape names) (drop l.k l.blocks))
      ≡ map (value_shape names) l.initial.to.items ++ all_results_from 0 (map (block_shape names) l.blocks);
  known :
      (count : ℕ) → list_all (value_known count) l.initial.to.items ≡ true → list_all (block_known count) l.blocks ≡ true
      → list_all (value_known count) l.to.items ≡ true;
}
