use Rattle.std.proofs.Common.{refl}
use Rattle.ir_check_insts.specs.Surroundings.{names_of}
use Rattle.ir_check_insts.proofs.Tests.{two_then, two_else, three_then, three_else}
use Rattle.ir_check_insts.proofs.around.Around.is_icmp.Goals as goal
use Rattle.ir_check_insts.proofs.around.Around.is_icmp.Goals.{then-is_scalar, else-is_scalar}

pub returns-then-has_ty : goal.returns-then-has_ty
returns-then-has_ty c predicate =
    three_then _ _ _ c.if-is_scalar.value c.has_ty-then-has_ty.result _ c.if-has_ty.true refl
    (elim c.if-is_scalar.branch [
      | then-is_scalar w ↦ two_then _ _ _ _ _ w.if-is_scalar.true w.value-is (c.is_scalar.ensures (names_of c.args.self.now)) (w.has_ty.ensures)
      | else-is_scalar w ↦ two_else _ _ _ _ w.if-is_scalar.false w.value-is (c.is_scalar.ensures (names_of c.args.self.now))
    ])
    (c.has_ty-then-has_ty.ensures)

pub returns-else-has_ty : goal.returns-else-has_ty
returns-else-has_ty c predicate =
    three_else _ _ _ c.if-is_scalar.value _ c.if-has_ty.false refl
    (elim c.if-is_scalar.branch [
      | then-is_scalar w ↦ two_then _ _ _ _ _ w.if-is_scalar.true w.value-is (c.is_scalar.ensures (names_of c.args.self.now)) (w.has_ty.ensures)
      | else-is_scalar w ↦ two_else _ _ _ _ w.if-is_scalar.false w.value-is (c.is_scalar.ensures (names_of c.args.self.now))
    ])
