use Rattle.flip_frames.proofs.FarSlots.{far_store_runs}
use Rattle.flip_frames.proofs.far_slots_are_stored.Goals as goal

pub returns : goal.returns
returns c = far_store_runs
