use Rattle.flip_jumps.proofs.PlaceLaws.{stage_forgotten}
use Rattle.flip_jumps.proofs.stages_are_forgotten.Goals as goal

pub returns : goal.returns
returns c = stage_forgotten
