use Rattle.std.proofs.Common.{◌≡◌, ◌++◌, drop, map}
use Rattle.std.specs.List.{flat_map}
use Rattle.ir_tree.specs.ShapeOf.{named_ty_shape}
use Rattle.ir_print.specs.Texts.{type_line}
use Rattle.ir_print.proofs.items.push_named_types.Given as goal

abbrev pub invariant-loop-item : goal.invariant-loop-item
invariant-loop-item l =
    l.to.items ++ flat_map type_line (map (named_ty_shape l.names) (drop l.item-index l.items))
    ≡ l.initial.to.items ++ flat_map type_line (map (named_ty_shape l.names) l.items)
