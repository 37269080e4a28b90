use Rattle.ir_missing.proofs.Telling.{tells_then, tells_else}
use Rattle.ir_missing.proofs.bodies.select_there.Goals as goal

pub returns-then-both_there : goal.returns-then-both_there
returns-then-both_there c = tells_then c.both_there.ensures c.if-both_there.true c.ty_val_there.ensures

pub returns-else-both_there : goal.returns-else-both_there
returns-else-both_there c = tells_else _ _ c.both_there.ensures c.if-both_there.false
