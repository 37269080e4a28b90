use Rattle.ir_typed_runs.proofs.Steps as steps
use Rattle.ir_typed_runs.proofs.laws.operands_fit.Goals as goal

pub returns : goal.returns
returns c = λ p kinds s a rest x typed is top at. steps.operands_fit p kinds typed s a rest x is top at
