use Rattle.ir_typed_runs.proofs.Cells.{loaded_kind}
use Rattle.ir_typed_runs.proofs.laws.loads_keep_kinds.Goals as goal

pub returns : goal.returns
returns c = loaded_kind
