use Rattle.ir_missing.specs.Missing.{InBlock}
use Rattle.ir_rules.specs.Faults.{IsFirst}
use Rattle.ir_missing.proofs.Earliest.{Below}
use Rattle.ir_missing.proofs.missing.first_missing_in_function.Given as goal

abbrev pub invariant-loop-b : goal.invariant-loop-b
invariant-loop-b l = IsFirst (Below (InBlock l.p l.f) l.b) l.first
