use Rattle.std.proofs.Common.{sym}
use Rattle.ir_tree.specs.ShapeOf.{phi_in_shape}
use Rattle.ir_rules.specs.Instructions.{HasTy}
use Rattle.ir_type_tests.proofs.Both.{fails}
use Rattle.ir_type_tests.proofs.Rests.{rest_next, rest_fails}
use Rattle.ir_check_insts.specs.Surroundings.{names_of, around_shape, ty_in}
use Rattle.ir_check_insts.proofs.around.Around.inputs_have.Goals as goal

pub returns-then-not-has_ty : goal.returns-then-not-has_ty
returns-then-not-has_ty c = (
  λ no. cc,
  λ all. absurd (rest_fails (λ i. HasTy (around_shape c.args.self.now) i.val (ty_in c.args.self.now c.args.ty.now)) (phi_in_shape (names_of c.args.self.now)) c.args.inputs.now c.loop-input.input-index c.input-item.result c.loop-input-test.true (sym c.input-item.is)
      (fails _ c.has_ty.result c.if-not-has_ty.true c.has_ty.ensures) _ c.loop-input.invariant all),
)

pub loop-input-preserved : goal.loop-input-preserved
loop-input-preserved c =
    rest_next (λ i. HasTy (around_shape c.args.self.now) i.val (ty_in c.args.self.now c.args.ty.now)) (phi_in_shape (names_of c.args.self.now)) c.args.inputs.now c.loop-input.input-index c.input-item.result c.loop-input-test.true (sym c.input-item.is)
    (c.has_ty.ensures.0 c.if-not-has_ty.false) _ c.loop-input.invariant
