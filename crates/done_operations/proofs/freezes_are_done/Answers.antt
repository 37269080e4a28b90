use Rattle.done_operations.proofs.Done as done
use Rattle.done_operations.proofs.freezes_are_done.Goals as goal

pub returns : goal.returns
returns c = done.freezes_done
