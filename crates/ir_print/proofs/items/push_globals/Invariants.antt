use Rattle.std.proofs.Common.{◌≡◌, ◌++◌, drop, map}
use Rattle.std.specs.List.{flat_map}
use Rattle.ir_tree.specs.ShapeOf.{global_shape}
use Rattle.ir_print.specs.Texts.{global_line}
use Rattle.ir_print.proofs.items.push_globals.Given as goal

abbrev pub invariant-loop-item : goal.invariant-loop-item
invariant-loop-item l =
    l.to.items ++ flat_map global_line (map (global_shape l.names) (drop l.item-index l.items))
    ≡ l.initial.to.items ++ flat_map global_line (map (global_shape l.names) l.items)
