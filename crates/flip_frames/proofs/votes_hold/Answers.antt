use Rattle.flip_frames.proofs.Votes.{vote_carries}
use Rattle.flip_frames.proofs.votes_hold.Goals as goal

pub returns : goal.returns
returns c = vote_carries
