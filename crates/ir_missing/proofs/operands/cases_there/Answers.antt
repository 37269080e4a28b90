use Rattle.ir_tree.specs.ShapeOf.{case_shape}
use Rattle.ir_tree.specs.Known.{case_known}
use Rattle.ir_rules.specs.Uses.{case_uses}
use Rattle.ir_missing.specs.Tells.{Inside}
use Rattle.ir_missing.proofs.Telling.{rest_next, rest_stops, rest_ends}
use Rattle.ir_missing.proofs.operands.cases_there.Goals as goal

pub loop-case-preserved : goal.loop-case-preserved
loop-case-preserved c =
    rest_next (Inside _ _) case_known case_shape case_uses _ c.loop-case.case-index c.case-item.result _ c.loop-case-test.true c.case-item.is c.case_there.ensures
    c.if-not-case_there.false c.loop-case.invariant

pub returns-then-not-case_there : goal.returns-then-not-case_there
returns-then-not-case_there c =
    rest_stops (Inside _ _) case_known case_shape case_uses _ c.loop-case.case-index c.case-item.result _ c.loop-case-test.true c.case-item.is c.case_there.ensures
    c.if-not-case_there.true c.loop-case.invariant

pub returns : goal.returns
returns c = rest_ends (Inside _ _) case_known case_shape case_uses _ c.loop-case.case-index c.loop-case-test.false c.loop-case.invariant
