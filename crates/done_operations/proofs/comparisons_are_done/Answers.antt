use Rattle.done_operations.proofs.Done as done
use Rattle.done_operations.proofs.comparisons_are_done.Goals as goal

pub returns : goal.returns
returns c = done.comparisons_done
