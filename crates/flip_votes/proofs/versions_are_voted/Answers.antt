use Rattle.flip_votes.proofs.VotedAccesses as laws
use Rattle.flip_votes.proofs.versions_are_voted.Goals as goal

pub returns : goal.returns
returns c = laws.versions_run
