use Rattle.kept_states.proofs.Stacks as stacks
use Rattle.kept_states.proofs.values_are_held.Goals as goal

pub returns : goal.returns
returns c = stacks.values_held
