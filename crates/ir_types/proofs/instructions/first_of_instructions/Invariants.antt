use Rattle.ir_types.specs.Looks.{HasLooked, IsInFunction}
use Rattle.ir_types.proofs.Looking.{Below}
use Rattle.ir_types.proofs.instructions.first_of_instructions.Given as goal

abbrev pub invariant-loop-at : goal.invariant-loop-at
invariant-loop-at l = HasLooked l.p (Below IsInFunction l.at) l.found
