use Rattle.done_operations.proofs.Done as done
use Rattle.done_operations.proofs.conversions_are_done.Goals as goal

pub returns : goal.returns
returns c = done.conversions_done
