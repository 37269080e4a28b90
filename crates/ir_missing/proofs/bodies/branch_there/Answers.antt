use Rattle.ir_missing.proofs.Telling.{tells_then, tells_else}
use Rattle.ir_missing.proofs.bodies.branch_there.Goals as goal

pub returns-then-ty_val_there : goal.returns-then-ty_val_there
returns-then-ty_val_there c = tells_then c.ty_val_there.ensures c.if-ty_val_there.true (c.blocks_there.ensures _)

pub returns-else-ty_val_there : goal.returns-else-ty_val_there
returns-else-ty_val_there c = tells_else _ _ c.ty_val_there.ensures c.if-ty_val_there.false
