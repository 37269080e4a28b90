use Rattle.ir_tree.specs.ShapeOf.{ty_val_shape}
use Rattle.ir_tree.specs.Known.{ty_val_known}
use Rattle.ir_rules.specs.Uses.{ty_val_uses}
use Rattle.ir_missing.specs.Tells.{Inside}
use Rattle.ir_missing.proofs.Telling.{RestTells}
use Rattle.ir_missing.proofs.operands.ty_vals_there.Given as goal

abbrev pub invariant-loop-operand : goal.invariant-loop-operand
invariant-loop-operand l = RestTells (Inside l.outside l.inside) ty_val_known ty_val_shape ty_val_uses l.operands l.operand-index
