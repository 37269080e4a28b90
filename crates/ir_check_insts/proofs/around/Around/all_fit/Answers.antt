use Rattle.std.proofs.Common.{sym}
use Rattle.ir_rules.specs.Instructions.{Fits}
use Rattle.ir_type_tests.proofs.Both.{fails}
use Rattle.ir_type_tests.proofs.Rests.{rest_next, rest_fails}
use Rattle.ir_check_insts.specs.Surroundings.{around_shape, ty_val_in}
use Rattle.ir_check_insts.proofs.around.Around.all_fit.Goals as goal

pub returns-then-not-fits : goal.returns-then-not-fits
returns-then-not-fits c = (
  λ no. cc,
  λ all. absurd (rest_fails (Fits (around_shape c.args.self.now)) (ty_val_in c.args.self.now) c.args.xs.now c.loop-x.x-index c.x-item.result c.loop-x-test.true (sym c.x-item.is)
      (fails _ c.fits.result c.if-not-fits.true c.fits.ensures) _ c.loop-x.invariant all),
)

pub loop-x-preserved : goal.loop-x-preserved
loop-x-preserved c =
    rest_next (Fits (around_shape c.args.self.now)) (ty_val_in c.args.self.now) c.args.xs.now c.loop-x.x-index c.x-item.result c.loop-x-test.true (sym c.x-item.is)
    (c.fits.ensures.0 c.if-not-fits.false) _ c.loop-x.invariant
