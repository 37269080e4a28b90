use Rattle.std.proofs.Common.{◌≡◌, ◌++◌, drop, map, false}
use Rattle.ir_tree.specs.ShapeOf.{param_shape}
use Rattle.ir_print_consts.specs.Texts.{in_row}
use Rattle.ir_print.specs.Texts.{parameter_text}
use Rattle.ir_print.proofs.items.push_parameters.Given as goal

abbrev pub invariant-loop-param : goal.invariant-loop-param
invariant-loop-param l =
    l.to.items ++ in_row l.needs_comma (map parameter_text (map (param_shape l.names) (drop l.param-index l.params)))
    ≡ l.initial.to.items ++ in_row false (map parameter_text (map (param_shape l.names) l.params))
