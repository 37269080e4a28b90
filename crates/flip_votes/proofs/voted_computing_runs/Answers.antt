use Rattle.flip_votes.proofs.VotedRuns as laws
use Rattle.flip_votes.proofs.voted_computing_runs.Goals as goal

pub returns : goal.returns
returns c = laws.pure_voted
