use Rattle.std.proofs.Common.{◌≡◌, ◌++◌, ℕ, List, map, drop, true}
use Rattle.std.specs.List.{list_all}
use Rattle.ir_tree.specs.Known.{name_known, phi_in_known}
use Rattle.ir_tree.specs.ShapeOf.{name_shape, phi_in_shape}
use Rattle.ir_edges.specs.Locals.{input_names}
use Rattle.ir_edges.proofs.locals.push_inputs.Given as goal

abbrev pub invariant-loop-input : goal.invariant-loop-input
invariant-loop-input l = record {
  shape :
      (names : List (List ℕ)) → map (name_shape names) l.to.items ++ input_names (map (phi_in_shape names) (drop l.input-index l.inputs))
      ≡ map (name_shape names) l.initial.to.items ++ input_names (map (phi_in_shape names) l.inputs);
  known :
      (count : ℕ) → list_all (name_known count) l.initial.to.items ≡ true → list_all (phi_in_known count) l.inputs ≡ true
      → list_all (name_known count) l.to.items ≡ true;
}
