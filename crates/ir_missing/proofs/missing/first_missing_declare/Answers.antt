use Rattle.std.proofs.Common.{arith}
use Rattle.std.proofs.lemmas.Option.{slice_get_within}
use Rattle.ir_rules.specs.Places.{declare_at}
use Rattle.ir_missing.specs.Missing.{IsMissing}
use Rattle.ir_missing.proofs.Earliest.{first_none, first_more, first_all}
use Rattle.ir_missing.proofs.missing.first_missing_declare.Goals as goal

pub loop-k-init : goal.loop-k-init
loop-k-init c = first_none _

pub loop-k-preserved : goal.loop-k-preserved
loop-k-preserved c =
    rw c.earlier-first.ensures
    (first_more (λ j at. IsMissing c.args.p.now (declare_at j) at) c.loop-k.k c.loop-k.first _ c.loop-k.invariant c.missing_declare.ensures)

pub returns : goal.returns
returns c =
    first_all (λ j at. IsMissing c.args.p.now (declare_at j) at) c.loop-k.k c.loop-k.first
    (λ j at miss. omega (arith, slice_get_within c.args.p.now.spots.declares.items j at miss.spot, c.args.p.now.declares_spotted, c.len-k-end.ensures)) c.loop-k.invariant
