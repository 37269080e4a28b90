use Rattle.flip_votes.proofs.VotedVersions as laws
use Rattle.flip_votes.proofs.one_is_voted.Goals as goal

pub returns : goal.returns
returns c = laws.one_runs
