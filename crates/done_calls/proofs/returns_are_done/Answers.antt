use Rattle.done_calls.proofs.Returns as laws
use Rattle.done_calls.proofs.returns_are_done.Goals as goal

pub returns : goal.returns
returns c = laws.returns_done
