use Rattle.done_operations.proofs.Done as done
use Rattle.done_operations.proofs.binaries_are_done.Goals as goal

pub returns : goal.returns
returns c = done.binaries_done
