use Rattle.ir_compute.specs.Operands.{operand_values}
use Rattle.ir_compute.proofs.Distances.{HasCome}
use Rattle.ir_compute.proofs.pointers.distance.Given as goal

abbrev pub invariant-loop-stride : goal.invariant-loop-stride
invariant-loop-stride l = HasCome l.strides (operand_values l.values l.operands) l.stride-index l.next l.far
