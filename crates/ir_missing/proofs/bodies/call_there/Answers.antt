use Rattle.ir_missing.proofs.Telling.{tells_then, tells_else}
use Rattle.ir_missing.proofs.bodies.call_there.Goals as goal

pub returns-then-return_there : goal.returns-then-return_there
returns-then-return_there c = tells_then c.return_there.ensures c.if-return_there.true c.ty_vals_there.ensures

pub returns-else-return_there : goal.returns-else-return_there
returns-else-return_there c = tells_else _ _ c.return_there.ensures c.if-return_there.false
