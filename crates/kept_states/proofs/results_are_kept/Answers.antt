use Rattle.kept_states.proofs.Stacks as stacks
use Rattle.kept_states.proofs.results_are_kept.Goals as goal

pub returns : goal.returns
returns c = stacks.results
