use Rattle.ir_check.proofs.Refusals.{not_refused}
use Rattle.ir_check.proofs.laws.proper_modules_are_accepted.Goals as goal

pub returns : goal.returns
returns c = not_refused
