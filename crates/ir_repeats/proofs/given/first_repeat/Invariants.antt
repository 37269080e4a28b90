use Rattle.ir_rules.specs.Faults.{IsFirst}
use Rattle.ir_repeats.proofs.GivenPlaces.{IsRepeatedBelow}
use Rattle.ir_repeats.proofs.given.first_repeat.Given as goal

abbrev pub invariant-loop-at : goal.invariant-loop-at
invariant-loop-at l = IsFirst (IsRepeatedBelow l.p l.at) l.first
