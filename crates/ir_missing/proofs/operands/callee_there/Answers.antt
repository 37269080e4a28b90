use Rattle.ir_missing.proofs.Telling.{tells_in}
use Rattle.ir_missing.proofs.operands.callee_there.Goals as goal

pub returns-in-Fixed : goal.returns-in-Fixed
returns-in-Fixed c = rw c.in-Fixed.is (tells_in c.called_there.ensures)
