use Rattle.ir_missing.specs.Missing.{InFunction}
use Rattle.ir_rules.specs.Faults.{IsFirst}
use Rattle.ir_missing.proofs.Earliest.{Below}
use Rattle.ir_missing.proofs.missing.first_missing_inst.Given as goal

abbrev pub invariant-loop-f : goal.invariant-loop-f
invariant-loop-f l = IsFirst (Below (InFunction l.p) l.f) l.first
