use Rattle.flip_frames.proofs.Votes.{near_store_runs}
use Rattle.flip_frames.proofs.near_slots_are_stored.Goals as goal

pub returns : goal.returns
returns c = near_store_runs
