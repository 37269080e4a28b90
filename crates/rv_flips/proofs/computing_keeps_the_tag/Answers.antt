use Rattle.rv_flips.specs.Survives.{IsListed}
use Rattle.rv_flips.proofs.ComputingLaw.{computed_moves}
use Rattle.rv_flips.proofs.computing_keeps_the_tag.Goals as goal

pub returns : goal.returns
returns c = λ words points. computed_moves words (IsListed points)
