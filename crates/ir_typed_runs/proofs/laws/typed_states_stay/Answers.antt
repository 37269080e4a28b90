use Rattle.ir_typed_runs.proofs.Steps.{typed_stays}
use Rattle.ir_typed_runs.proofs.laws.typed_states_stay.Goals as goal

pub returns : goal.returns
returns c = typed_stays
