use Rattle.std.proofs.Common.{sym}
use Rattle.ir_tree.specs.Shape.{ParamShape}
use Rattle.ir_tree.specs.ShapeOf.{ty_shape, param_shape}
use Rattle.ir_rules.specs.Constants.{IsScalar}
use Rattle.ir_type_tests.proofs.Both.{fails}
use Rattle.ir_type_tests.proofs.Rests.{rest_next, rest_fails}
use Rattle.ir_types.proofs.declares.have_scalars.Goals as goal

pub returns-then-not-is_scalar : goal.returns-then-not-is_scalar
returns-then-not-is_scalar c names =
    let failing = fails (IsScalar (ty_shape names c.param-item.result.ty)) c.is_scalar.result c.if-not-is_scalar.true (c.is_scalar.ensures names) in (
      λ no. cc,
      λ all. absurd (rest_fails (λ (p : ParamShape). IsScalar p.ty) (param_shape names) c.args.params.now c.loop-param.param-index c.param-item.result
          c.loop-param-test.true (sym c.param-item.is) failing _ (c.loop-param.invariant names) all),
    )

pub loop-param-preserved : goal.loop-param-preserved
loop-param-preserved c names =
    rest_next (λ (p : ParamShape). IsScalar p.ty) (param_shape names) c.args.params.now c.loop-param.param-index c.param-item.result c.loop-param-test.true
    (sym c.param-item.is) ((c.is_scalar.ensures names).0 c.if-not-is_scalar.false) _ (c.loop-param.invariant names)
