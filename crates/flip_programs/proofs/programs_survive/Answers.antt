use Rattle.flip_programs.proofs.ProgramLaws.{programs_survive as survives}
use Rattle.flip_programs.proofs.programs_survive.Goals as goal

pub returns : goal.returns
returns c = survives
