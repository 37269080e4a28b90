use Rattle.flip_guards.proofs.SlotWords.{slots_take_up}
use Rattle.flip_guards.proofs.slots_take_up.Goals as goal

pub returns : goal.returns
returns c = slots_take_up
