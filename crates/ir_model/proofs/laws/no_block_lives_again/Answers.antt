use Rattle.ir_model.proofs.Kept.{step_keeps}
use Rattle.ir_model.proofs.laws.no_block_lives_again.Goals as goal

pub returns : goal.returns
returns c = step_keeps
