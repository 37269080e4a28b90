use Rattle.ir_accept.proofs.Accepted.{accepted}
use Rattle.ir_accept.proofs.laws.proper_texts_are_accepted.Goals as goal

pub returns : goal.returns
returns c = accepted
