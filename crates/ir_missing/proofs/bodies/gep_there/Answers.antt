use Rattle.ir_missing.proofs.Telling.{tells_then, tells_else}
use Rattle.ir_missing.proofs.bodies.gep_there.Goals as goal

pub returns-then-load_there : goal.returns-then-load_there
returns-then-load_there c = tells_then c.load_there.ensures c.if-load_there.true c.ty_vals_there.ensures

pub returns-else-load_there : goal.returns-else-load_there
returns-else-load_there c = tells_else _ _ c.load_there.ensures c.if-load_there.false
