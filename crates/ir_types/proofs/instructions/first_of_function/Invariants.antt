use Rattle.ir_types.specs.Looks.{HasLooked, IsInBlock}
use Rattle.ir_types.proofs.Looking.{Below}
use Rattle.ir_types.proofs.instructions.first_of_function.Given as goal

abbrev pub invariant-loop-block : goal.invariant-loop-block
invariant-loop-block l = HasLooked l.p (Below (IsInBlock l.function) l.block) l.found
