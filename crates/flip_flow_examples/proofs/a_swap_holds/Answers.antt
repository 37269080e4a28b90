use Rattle.flip_flow_examples.proofs.SwapRun.{swap_holds, one_by_one_refused}
use Rattle.flip_flow_examples.proofs.a_swap_holds.Goals as goal

pub returns-clause-holds : goal.returns-clause-holds
returns-clause-holds c = swap_holds

pub returns-clause-refused : goal.returns-clause-refused
returns-clause-refused c = one_by_one_refused
