use Rattle.ir_typed_runs.proofs.Steps.{inputs_fit}
use Rattle.ir_typed_runs.proofs.laws.inputs_of_phis_fit.Goals as goal

pub returns : goal.returns
returns c = λ p kinds s a rest to typed is top. inputs_fit p kinds typed s a rest to is top
