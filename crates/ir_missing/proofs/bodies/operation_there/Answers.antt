use Rattle.ir_missing.proofs.Telling.{tells_then, tells_else}
use Rattle.ir_missing.proofs.bodies.operation_there.Goals as goal

pub returns-then-typed_val_there : goal.returns-then-typed_val_there
returns-then-typed_val_there c = tells_then c.typed_val_there.ensures c.if-typed_val_there.true c.val_there.ensures

pub returns-else-typed_val_there : goal.returns-else-typed_val_there
returns-else-typed_val_there c = tells_else _ _ c.typed_val_there.ensures c.if-typed_val_there.false
