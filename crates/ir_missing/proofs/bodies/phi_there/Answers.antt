use Rattle.ir_missing.proofs.Telling.{tells_in, tells_then, tells_else}
use Rattle.ir_missing.proofs.bodies.phi_there.Goals as goal

pub returns-then-ty_there : goal.returns-then-ty_there
returns-then-ty_there c = tells_then (tells_in c.ty_there.ensures) c.if-ty_there.true c.inputs_there.ensures

pub returns-else-ty_there : goal.returns-else-ty_there
returns-else-ty_there c = tells_else _ _ (tells_in c.ty_there.ensures) c.if-ty_there.false
