use Rattle.flip_votes.proofs.VotedVersions as laws
use Rattle.flip_votes.proofs.additions_are_voted.Goals as goal

pub returns-clause-right : goal.returns-clause-right
returns-clause-right c = laws.additions_run

pub returns-clause-short : goal.returns-clause-short
returns-clause-short c = laws.additions_short
