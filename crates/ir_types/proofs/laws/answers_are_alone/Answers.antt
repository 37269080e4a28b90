use Rattle.ir_types.proofs.NoFaults.{one_answer}
use Rattle.ir_types.proofs.laws.answers_are_alone.Goals as goal

pub returns : goal.returns
returns c = one_answer
