use Rattle.flip_votes.proofs.VotedRuns as laws
use Rattle.flip_votes.proofs.voted_slots_are_reached.Goals as goal

pub returns-clause-loaded : goal.returns-clause-loaded
returns-clause-loaded c = laws.load_voted

pub returns-clause-stored : goal.returns-clause-stored
returns-clause-stored c = laws.store_voted
