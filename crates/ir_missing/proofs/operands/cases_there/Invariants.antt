use Rattle.ir_tree.specs.ShapeOf.{case_shape}
use Rattle.ir_tree.specs.Known.{case_known}
use Rattle.ir_rules.specs.Uses.{case_uses}
use Rattle.ir_missing.specs.Tells.{Inside}
use Rattle.ir_missing.proofs.Telling.{RestTells}
use Rattle.ir_missing.proofs.operands.cases_there.Given as goal

abbrev pub invariant-loop-case : goal.invariant-loop-case
invariant-loop-case l = RestTells (Inside l.outside l.inside) case_known case_shape case_uses l.cases l.case-index
