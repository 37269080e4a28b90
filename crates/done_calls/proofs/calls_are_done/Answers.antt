use Rattle.done_calls.proofs.Calls as calls
use Rattle.done_calls.proofs.calls_are_done.Goals as goal

pub returns : goal.returns
returns c = calls.calls
