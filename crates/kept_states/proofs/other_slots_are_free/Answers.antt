use Rattle.kept_states.proofs.Stacks as stacks
use Rattle.kept_states.proofs.other_slots_are_free.Goals as goal

pub returns : goal.returns
returns c = stacks.free
