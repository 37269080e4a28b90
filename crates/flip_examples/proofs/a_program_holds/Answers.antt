use Rattle.flip_examples.proofs.ProgramRun.{program_holds}
use Rattle.flip_examples.proofs.a_program_holds.Goals as goal

pub returns : goal.returns
returns c = program_holds
