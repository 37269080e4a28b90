use Rattle.std.proofs.Common.{◌≡◌, ◌++◌, drop, map}
use Rattle.std.specs.List.{flat_map}
use Rattle.ir_tree.specs.ShapeOf.{declare_shape}
use Rattle.ir_print.specs.Texts.{declare_line}
use Rattle.ir_print.proofs.items.push_declares.Given as goal

abbrev pub invariant-loop-item : goal.invariant-loop-item
invariant-loop-item l =
    l.to.items ++ flat_map declare_line (map (declare_shape l.names) (drop l.item-index l.items))
    ≡ l.initial.to.items ++ flat_map declare_line (map (declare_shape l.names) l.items)
