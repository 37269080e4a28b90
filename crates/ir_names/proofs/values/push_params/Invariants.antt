use Rattle.std.proofs.Common.{◌≡◌, ◌++◌, ℕ, List, map, drop, true}
use Rattle.std.specs.List.{list_all}
use Rattle.ir_tree.specs.Known.{param_known}
use Rattle.ir_tree.specs.ShapeOf.{param_shape}
use Rattle.ir_rules.specs.Values.{params_from}
use Rattle.ir_names.specs.Results.{value_shape, value_known}
use Rattle.ir_names.proofs.values.push_params.Given as goal

abbrev pub invariant-loop-k : goal.invariant-loop-k
invariant-loop-k l = record {
  shape :
      (names : List (List ℕ)) → map (value_shape names) l.to.items ++ params_from l.k (map (param_shape names) (drop l.k l.params))
      ≡ map (value_shape names) l.initial.to.items ++ params_from 0 (map (param_shape names) l.params);
  known :
      (count : ℕ) → list_all (value_known count) l.initial.to.items ≡ true → list_all (param_known count) l.params ≡ true
      → list_all (value_known count) l.to.items ≡ true;
}
