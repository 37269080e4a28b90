use Rattle.std.proofs.Common.{◌≡◌, ◌++◌, drop, map, false}
use Rattle.ir_tree.specs.ShapeOf.{phi_in_shape}
use Rattle.ir_print_consts.specs.Texts.{in_row}
use Rattle.ir_print.specs.Texts.{input_text}
use Rattle.ir_print.proofs.instructions.push_input_row.Given as goal

abbrev pub invariant-loop-input : goal.invariant-loop-input
invariant-loop-input l =
    l.to.items ++ in_row l.needs_comma (map input_text (map (phi_in_shape l.names) (drop l.input-index l.inputs)))
    ≡ l.initial.to.items ++ in_row false (map input_text (map (phi_in_shape l.names) l.inputs))
