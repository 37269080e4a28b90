use Rattle.done_calls.proofs.Returns as laws
use Rattle.done_calls.proofs.functions_return.Goals as goal

pub returns : goal.returns
returns c = laws.functions
