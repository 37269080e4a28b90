use Rattle.ir_rules.specs.Places.{global_at}
use Rattle.ir_rules.specs.Faults.{IsFirst}
use Rattle.ir_missing.specs.Missing.{IsMissing}
use Rattle.ir_missing.proofs.Earliest.{Below}
use Rattle.ir_missing.proofs.missing.first_missing_global.Given as goal

abbrev pub invariant-loop-k : goal.invariant-loop-k
invariant-loop-k l = IsFirst (Below (λ j at. IsMissing l.p (global_at j) at) l.k) l.first
