use Rattle.flip_guards.proofs.SlotWords.{slots_come_in}
use Rattle.flip_guards.proofs.slots_come_in.Goals as goal

pub returns : goal.returns
returns c = slots_come_in
