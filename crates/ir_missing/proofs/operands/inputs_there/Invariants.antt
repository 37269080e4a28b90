use Rattle.ir_tree.specs.ShapeOf.{phi_in_shape}
use Rattle.ir_tree.specs.Known.{phi_in_known}
use Rattle.ir_rules.specs.Uses.{input_uses}
use Rattle.ir_missing.specs.Tells.{Inside}
use Rattle.ir_missing.proofs.Telling.{RestTells}
use Rattle.ir_missing.proofs.operands.inputs_there.Given as goal

abbrev pub invariant-loop-input : goal.invariant-loop-input
invariant-loop-input l = RestTells (Inside l.outside l.inside) phi_in_known phi_in_shape input_uses l.inputs l.input-index
