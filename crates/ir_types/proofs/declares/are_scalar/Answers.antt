use Rattle.std.proofs.Common.{refl, sym}
use Rattle.ir_tree.specs.ShapeOf.{ty_shape}
use Rattle.ir_rules.specs.Constants.{IsScalar}
use Rattle.ir_type_tests.proofs.Both.{fails}
use Rattle.ir_type_tests.proofs.Rests.{rest_next, rest_fails, rest_ends}
use Rattle.ir_types.proofs.declares.are_scalar.Goals as goal

pub returns-then-not-is_scalar : goal.returns-then-not-is_scalar
returns-then-not-is_scalar c names =
    let failing = fails (IsScalar (ty_shape names c.ty-item.result)) c.is_scalar.result c.if-not-is_scalar.true (c.is_scalar.ensures names) in (
      λ no. cc,
      λ all. absurd (rest_fails IsScalar (ty_shape names) c.args.types.now c.loop-ty.ty-index c.ty-item.result c.loop-ty-test.true (sym c.ty-item.is)
          failing _ (c.loop-ty.invariant names) all),
    )

pub loop-ty-preserved : goal.loop-ty-preserved
loop-ty-preserved c names =
    rest_next IsScalar (ty_shape names) c.args.types.now c.loop-ty.ty-index c.ty-item.result c.loop-ty-test.true (sym c.ty-item.is)
    ((c.is_scalar.ensures names).0 c.if-not-is_scalar.false) _ (c.loop-ty.invariant names)

pub returns : goal.returns
returns c names = (
  λ yes. rest_ends IsScalar (ty_shape names) c.args.types.now c.loop-ty.ty-index c.loop-ty-test.false _ (c.loop-ty.invariant names),
  λ all. refl,
)
