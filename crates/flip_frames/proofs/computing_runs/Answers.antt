use Rattle.flip_frames.proofs.RunLaws.{pure_runs}
use Rattle.flip_frames.proofs.computing_runs.Goals as goal

pub returns : goal.returns
returns c = pure_runs
