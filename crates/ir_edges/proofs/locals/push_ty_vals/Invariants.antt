use Rattle.std.proofs.Common.{◌≡◌, ◌++◌, ℕ, List, map, drop, true}
use Rattle.std.specs.List.{list_all}
use Rattle.ir_tree.specs.Known.{name_known, ty_val_known}
use Rattle.ir_tree.specs.ShapeOf.{name_shape, ty_val_shape}
use Rattle.ir_edges.specs.Locals.{ty_val_names}
use Rattle.ir_edges.proofs.locals.push_ty_vals.Given as goal

abbrev pub invariant-loop-val : goal.invariant-loop-val
invariant-loop-val l = record {
  shape :
      (names : List (List ℕ)) → map (name_shape names) l.to.items ++ ty_val_names (map (ty_val_shape names) (drop l.val-index l.vals))
      ≡ map (name_shape names) l.initial.to.items ++ ty_val_names (map (ty_val_shape names) l.vals);
  known :
      (count : ℕ) → list_all (name_known count) l.initial.to.items ≡ true → list_all (ty_val_known count) l.vals ≡ true
      → list_all (name_known count) l.to.items ≡ true;
}
