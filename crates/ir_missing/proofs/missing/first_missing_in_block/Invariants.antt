use Rattle.ir_missing.specs.Missing.{IsMissing}
use Rattle.ir_rules.specs.Places.{inst_at_place}
use Rattle.ir_rules.specs.Faults.{IsFirst}
use Rattle.ir_missing.proofs.Earliest.{Below}
use Rattle.ir_missing.proofs.missing.first_missing_in_block.Given as goal

abbrev pub invariant-loop-i : goal.invariant-loop-i
invariant-loop-i l = IsFirst (Below (λ i at. IsMissing l.p (inst_at_place l.f l.b i) at) l.i) l.first
