use Rattle.std.proofs.Common.{◌≡◌, true, false, arith}
use Rattle.ir_check.proofs.Mains.{none_next, none_at_all, not_both}
use Rattle.ir_check.proofs.main_function.some_is_main.Goals as goal

pub loop-f-preserved : goal.loop-f-preserved
loop-f-preserved c =
    none_next c.args.names.now c.args.functions.now c.loop-f.f-index c.f-item.result c.loop-f-test.true c.f-item.is
    (λ main. not_both c.is_main.result (c.is_main.ensures.1 main) c.if-is_main.false) c.loop-f.invariant

pub returns : goal.returns
returns c = (
  λ no. cc,
  λ some. absurd (none_at_all c.args.names.now c.args.functions.now c.loop-f.f-index (omega (arith, c.loop-f-test.false)) c.loop-f.invariant some),
)
