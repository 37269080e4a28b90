use Rattle.flip_votes.proofs.VotedRuns as laws
use Rattle.flip_votes.proofs.voted_runs_join.Goals as goal

pub returns : goal.returns
returns c words xs ys u v w one two = laws.voted_then one two
