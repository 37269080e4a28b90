use Rattle.ir_missing.proofs.Telling.{tells_then, tells_else}
use Rattle.ir_missing.proofs.bodies.blocks_there.Goals as goal

pub returns-then-block_there : goal.returns-then-block_there
returns-then-block_there c t = tells_then (c.block_there.ensures t) c.if-block_there.true (c.block_there-then-block_there.ensures t)

pub returns-else-block_there : goal.returns-else-block_there
returns-else-block_there c t = tells_else _ _ (c.block_there.ensures t) c.if-block_there.false
