use Rattle.ir_flow.specs.Looks.{AreBefore, HasLooked}
use Rattle.ir_flow.proofs.faults.look_at_block.Given as goal

abbrev pub invariant-loop-index : goal.invariant-loop-index
invariant-loop-index l = HasLooked l.p (AreBefore l.function l.block l.index) l.found
