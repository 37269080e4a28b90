use Rattle.ir_flow.specs.Looks.{AreBefore, HasLooked}
use Rattle.ir_flow.proofs.faults.first_flow_fault.Given as goal

abbrev pub invariant-loop-at : goal.invariant-loop-at
invariant-loop-at l = HasLooked l.p (AreBefore l.at 0 0) l.found
