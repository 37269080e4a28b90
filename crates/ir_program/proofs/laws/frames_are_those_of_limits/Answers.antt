use Rattle.ir_program.proofs.Framed.{framed}
use Rattle.ir_program.proofs.laws.frames_are_those_of_limits.Goals as goal

pub returns : goal.returns
returns c = framed
