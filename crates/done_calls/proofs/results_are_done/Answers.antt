use Rattle.done_calls.proofs.Returns as laws
use Rattle.done_calls.proofs.results_are_done.Goals as goal

pub returns : goal.returns
returns c = laws.takes
