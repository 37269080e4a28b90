use Rattle.done_select.proofs.Done as done
use Rattle.done_select.proofs.selects_are_done.Goals as goal

pub returns : goal.returns
returns c = done.selects_done
