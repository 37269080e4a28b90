use Rattle.kept_states.proofs.Stacks as stacks
use Rattle.kept_states.proofs.frames_have_room.Goals as goal

pub returns : goal.returns
returns c = stacks.room
