use Rattle.ir_model.proofs.Ends.{ends_run}
use Rattle.ir_model.proofs.laws.an_ended_run_is_a_run.Goals as goal

pub returns : goal.returns
returns c = ends_run
