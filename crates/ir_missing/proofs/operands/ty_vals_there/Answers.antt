use Rattle.ir_tree.specs.ShapeOf.{ty_val_shape}
use Rattle.ir_tree.specs.Known.{ty_val_known}
use Rattle.ir_rules.specs.Uses.{ty_val_uses}
use Rattle.ir_missing.specs.Tells.{Inside}
use Rattle.ir_missing.proofs.Telling.{rest_next, rest_stops, rest_ends}
use Rattle.ir_missing.proofs.operands.ty_vals_there.Goals as goal

pub loop-operand-preserved : goal.loop-operand-preserved
loop-operand-preserved c =
    rest_next (Inside _ _) ty_val_known ty_val_shape ty_val_uses _ c.loop-operand.operand-index c.operand-item.result _ c.loop-operand-test.true c.operand-item.is c.ty_val_there.ensures
    c.if-not-ty_val_there.false c.loop-operand.invariant

pub returns-then-not-ty_val_there : goal.returns-then-not-ty_val_there
returns-then-not-ty_val_there c =
    rest_stops (Inside _ _) ty_val_known ty_val_shape ty_val_uses _ c.loop-operand.operand-index c.operand-item.result _ c.loop-operand-test.true c.operand-item.is c.ty_val_there.ensures
    c.if-not-ty_val_there.true c.loop-operand.invariant

pub returns : goal.returns
returns c = rest_ends (Inside _ _) ty_val_known ty_val_shape ty_val_uses _ c.loop-operand.operand-index c.loop-operand-test.false c.loop-operand.invariant
