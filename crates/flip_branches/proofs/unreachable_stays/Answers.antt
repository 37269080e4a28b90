use Rattle.flip_branches.proofs.TestLaws.{unreachable_stays as stays}
use Rattle.flip_branches.proofs.unreachable_stays.Goals as goal

pub returns : goal.returns
returns c = stays
