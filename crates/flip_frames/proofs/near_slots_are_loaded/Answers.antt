use Rattle.flip_frames.proofs.Votes.{near_load_runs}
use Rattle.flip_frames.proofs.near_slots_are_loaded.Goals as goal

pub returns : goal.returns
returns c = near_load_runs
