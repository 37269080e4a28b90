use Rattle.done_flow.proofs.Turns as turns
use Rattle.done_flow.proofs.branches_are_done.Goals as goal

pub returns : goal.returns
returns c = turns.branch_done
