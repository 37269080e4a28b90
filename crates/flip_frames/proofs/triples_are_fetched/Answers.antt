use Rattle.flip_frames.proofs.Fetches.{fetch_carries}
use Rattle.flip_frames.proofs.triples_are_fetched.Goals as goal

pub returns : goal.returns
returns c = fetch_carries
