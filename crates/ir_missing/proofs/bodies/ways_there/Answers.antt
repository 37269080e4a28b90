use Rattle.ir_missing.proofs.Telling.{tells_then, tells_else}
use Rattle.ir_missing.proofs.bodies.ways_there.Goals as goal

pub returns-then-block_there : goal.returns-then-block_there
returns-then-block_there c = tells_then (c.block_there.ensures _) c.if-block_there.true c.cases_there.ensures

pub returns-else-block_there : goal.returns-else-block_there
returns-else-block_there c = tells_else _ _ (c.block_there.ensures _) c.if-block_there.false
