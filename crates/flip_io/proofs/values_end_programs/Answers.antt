use Rattle.flip_io.proofs.EndLaw.{value_ends}
use Rattle.flip_io.proofs.values_end_programs.Goals as goal

pub returns : goal.returns
returns c = value_ends
