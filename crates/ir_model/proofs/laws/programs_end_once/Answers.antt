use Rattle.ir_model.proofs.Ends.{ends_once}
use Rattle.ir_model.proofs.laws.programs_end_once.Goals as goal

pub returns : goal.returns
returns c = ends_once
