use Rattle.ir_typed_runs.proofs.Computed.{compute_kind}
use Rattle.ir_typed_runs.proofs.laws.operations_keep_kinds.Goals as goal

pub returns : goal.returns
returns c = compute_kind
