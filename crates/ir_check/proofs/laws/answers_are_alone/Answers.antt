use Rattle.ir_check.proofs.Refusals.{one_refusal}
use Rattle.ir_check.proofs.laws.answers_are_alone.Goals as goal

pub returns : goal.returns
returns c = one_refusal
