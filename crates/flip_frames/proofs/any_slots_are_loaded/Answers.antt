use Rattle.flip_frames.proofs.AnySlots.{any_load_runs}
use Rattle.flip_frames.proofs.any_slots_are_loaded.Goals as goal

pub returns : goal.returns
returns c = any_load_runs
