use Rattle.std.proofs.Common.{◌≡◌, map, take}
use Rattle.mem_cells.specs.Shapes.{value_shape}
use Rattle.ir_compute.specs.Operands.{operand_values}
use Rattle.ir_eval.proofs.activation.entered.Given as goal

abbrev pub invariant-loop-operand : goal.invariant-loop-operand
invariant-loop-operand l = map value_shape l.values.items ≡ operand_values l.caller (take l.operand-index l.operands)
