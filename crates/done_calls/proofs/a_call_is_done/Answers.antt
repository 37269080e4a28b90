use Rattle.done_calls.proofs.Example as example
use Rattle.done_calls.proofs.a_call_is_done.Goals as goal

pub returns : goal.returns
returns c = example.a_call
