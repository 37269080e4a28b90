use Rattle.flip_frames.proofs.Fetches.{fetch_slots_carries, fetched_covered}
use Rattle.flip_frames.proofs.slot_triples_are_fetched.Goals as goal

pub returns-clause-fetched : goal.returns-clause-fetched
returns-clause-fetched c = fetch_slots_carries

pub returns-clause-covered : goal.returns-clause-covered
returns-clause-covered c = fetched_covered
