use Rattle.ir_tree.specs.ShapeOf.{phi_in_shape}
use Rattle.ir_tree.specs.Known.{phi_in_known}
use Rattle.ir_rules.specs.Uses.{input_uses}
use Rattle.ir_missing.specs.Tells.{Inside}
use Rattle.ir_missing.proofs.Telling.{rest_next, rest_stops, rest_ends}
use Rattle.ir_missing.proofs.operands.inputs_there.Goals as goal

pub loop-input-preserved : goal.loop-input-preserved
loop-input-preserved c =
    rest_next (Inside _ _) phi_in_known phi_in_shape input_uses _ c.loop-input.input-index c.input-item.result _ c.loop-input-test.true c.input-item.is c.input_there.ensures
    c.if-not-input_there.false c.loop-input.invariant

pub returns-then-not-input_there : goal.returns-then-not-input_there
returns-then-not-input_there c =
    rest_stops (Inside _ _) phi_in_known phi_in_shape input_uses _ c.loop-input.input-index c.input-item.result _ c.loop-input-test.true c.input-item.is c.input_there.ensures
    c.if-not-input_there.true c.loop-input.invariant

pub returns : goal.returns
returns c = rest_ends (Inside _ _) phi_in_known phi_in_shape input_uses _ c.loop-input.input-index c.loop-input-test.false c.loop-input.invariant
