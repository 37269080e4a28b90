use Rattle.std.proofs.Common.{◌≡◌, ◌++◌, drop, map}
use Rattle.std.specs.List.{flat_map}
use Rattle.ir_tree.specs.ShapeOf.{function_shape}
use Rattle.ir_print.specs.Texts.{function_text}
use Rattle.ir_print.proofs.items.push_functions.Given as goal

abbrev pub invariant-loop-item : goal.invariant-loop-item
invariant-loop-item l =
    l.to.items ++ flat_map function_text (map (function_shape l.names) (drop l.item-index l.items))
    ≡ l.initial.to.items ++ flat_map function_text (map (function_shape l.names) l.items)
