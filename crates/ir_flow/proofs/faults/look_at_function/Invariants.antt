use Rattle.ir_flow.specs.Looks.{AreBefore, HasLooked}
use Rattle.ir_flow.proofs.faults.look_at_function.Given as goal

abbrev pub invariant-loop-block : goal.invariant-loop-block
invariant-loop-block l = HasLooked l.p (AreBefore l.function l.block 0) l.found
