use Rattle.flip_votes.proofs.VoteWindows as laws
use Rattle.flip_votes.proofs.votes_serve.Goals as goal

pub returns : goal.returns
returns c = laws.served_runs
