use Rattle.rv_flips.specs.Survives.{IsListed}
use Rattle.rv_flips.proofs.Fetch.{fetch_moves}
use Rattle.rv_flips.proofs.three_copies_are_fetched.Goals as goal

pub returns : goal.returns
returns c = λ words points. fetch_moves words (IsListed points)
