use Rattle.flip_frames.proofs.FarSlots.{far_load_runs}
use Rattle.flip_frames.proofs.far_slots_are_loaded.Goals as goal

pub returns : goal.returns
returns c = far_load_runs
