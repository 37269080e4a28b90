use Rattle.std.proofs.Common.{◌≡◌, ◌++◌, drop, map}
use Rattle.ir_tree.specs.ShapeOf.{ty_val_shape}
use Rattle.ir_print_consts.specs.Texts.{in_row}
use Rattle.ir_print.specs.Texts.{typed_text}
use Rattle.ir_print.proofs.operands.push_operands.Given as goal

abbrev pub invariant-loop-operand : goal.invariant-loop-operand
invariant-loop-operand l =
    l.to.items ++ in_row l.needs_comma (map typed_text (map (ty_val_shape l.names) (drop l.operand-index l.operands)))
    ≡ l.initial.to.items ++ in_row l.initial.is_after (map typed_text (map (ty_val_shape l.names) l.operands))
