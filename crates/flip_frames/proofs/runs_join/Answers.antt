use Rattle.flip_frames.proofs.RunLaws.{runs_then}
use Rattle.flip_frames.proofs.runs_join.Goals as goal

pub returns : goal.returns
returns c = λ words xs ys u v w one two. runs_then one two
