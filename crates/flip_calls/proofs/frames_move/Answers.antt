use Rattle.flip_calls.proofs.FrameLaws.{frames_go_down, frames_go_up}
use Rattle.flip_calls.proofs.frames_move.Goals as goal

pub returns-clause-down : goal.returns-clause-down
returns-clause-down c = frames_go_down

pub returns-clause-up : goal.returns-clause-up
returns-clause-up c = frames_go_up
