use Rattle.flip_frames.proofs.AnySlots.{any_store_runs}
use Rattle.flip_frames.proofs.any_slots_are_stored.Goals as goal

pub returns : goal.returns
returns c = any_store_runs
