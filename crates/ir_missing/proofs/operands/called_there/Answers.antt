use Rattle.ir_missing.proofs.ToldConstants.{called_told}
use Rattle.ir_missing.proofs.operands.called_there.Goals as goal

pub returns-in_default : goal.returns-in_default
returns-in_default c = called_told _ _ _ c.in_default.not-Global c.const_there.ensures
