use Rattle.std.proofs.Common.{arith}
use Rattle.ir_missing.specs.Missing.{InFunction}
use Rattle.ir_missing.proofs.Earliest.{first_none, first_more, first_all}
use Rattle.ir_missing.proofs.InstPlaces.{function_within}
use Rattle.ir_missing.proofs.missing.first_missing_inst.Goals as goal

pub loop-f-init : goal.loop-f-init
loop-f-init c = first_none _

pub loop-f-preserved : goal.loop-f-preserved
loop-f-preserved c =
    rw c.earlier-first.ensures
    (first_more (InFunction c.args.p.now) c.loop-f.f c.loop-f.first _ c.loop-f.invariant c.first_missing_in_function.ensures)

pub returns : goal.returns
returns c =
    first_all (InFunction c.args.p.now) c.loop-f.f c.loop-f.first
    (λ f at (b, (i, miss)). function_within c.args.p.now.spots f b i at miss.spot c.loop-f.f (omega (arith, c.len-f-end.ensures))) c.loop-f.invariant
