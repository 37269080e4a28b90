use Rattle.ir_missing.proofs.Telling.{tells_then, tells_else}
use Rattle.ir_missing.proofs.operands.input_there.Goals as goal

pub returns-then-val_there : goal.returns-then-val_there
returns-then-val_there c = tells_then c.val_there.ensures c.if-val_there.true (c.block_there.ensures _)

pub returns-else-val_there : goal.returns-else-val_there
returns-else-val_there c = tells_else _ _ c.val_there.ensures c.if-val_there.false
