use Rattle.flip_frames.proofs.RunLaws.{turn_runs}
use Rattle.flip_frames.proofs.versions_turn.Goals as goal

pub returns : goal.returns
returns c = turn_runs
