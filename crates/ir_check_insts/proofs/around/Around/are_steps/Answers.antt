use Rattle.std.proofs.Common.{sym}
use Rattle.ir_rules.specs.Instructions.{IsStep}
use Rattle.ir_type_tests.proofs.Both.{fails}
use Rattle.ir_type_tests.proofs.Rests.{rest_next, rest_fails}
use Rattle.ir_check_insts.specs.Surroundings.{around_shape, ty_val_in}
use Rattle.ir_check_insts.proofs.around.Around.are_steps.Goals as goal

pub returns-then-not-is_step : goal.returns-then-not-is_step
returns-then-not-is_step c = (
  λ no. cc,
  λ all. absurd (rest_fails (IsStep (around_shape c.args.self.now)) (ty_val_in c.args.self.now) c.args.indices.now c.loop-index.index-index c.index-item.result c.loop-index-test.true (sym c.index-item.is)
      (fails _ c.is_step.result c.if-not-is_step.true c.is_step.ensures) _ c.loop-index.invariant all),
)

pub loop-index-preserved : goal.loop-index-preserved
loop-index-preserved c =
    rest_next (IsStep (around_shape c.args.self.now)) (ty_val_in c.args.self.now) c.args.indices.now c.loop-index.index-index c.index-item.result c.loop-index-test.true (sym c.index-item.is)
    (c.is_step.ensures.0 c.if-not-is_step.false) _ c.loop-index.invariant
