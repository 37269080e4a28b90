use Rattle.std.proofs.Common.{refl}
use Rattle.ir_check_insts.specs.Surroundings.{names_of}
use Rattle.ir_check_insts.proofs.Tests.{two_then, two_else, three_then, three_else}
use Rattle.ir_check_insts.proofs.around.Around.is_binary.Goals as goal
use Rattle.ir_check_insts.proofs.around.Around.is_binary.Goals.{then-is_integer, else-is_integer}

pub returns-then-has_ty : goal.returns-then-has_ty
returns-then-has_ty c operation flags =
    three_then _ _ _ c.if-is_integer.value c.has_ty-then-has_ty.result _ c.if-has_ty.true refl
    (elim c.if-is_integer.branch [
      | then-is_integer w ↦ two_then _ _ _ _ _ w.if-is_integer.true w.value-is (c.is_integer.ensures (names_of c.args.self.now)) (w.has_ty.ensures)
      | else-is_integer w ↦ two_else _ _ _ _ w.if-is_integer.false w.value-is (c.is_integer.ensures (names_of c.args.self.now))
    ])
    (c.has_ty-then-has_ty.ensures)

pub returns-else-has_ty : goal.returns-else-has_ty
returns-else-has_ty c operation flags =
    three_else _ _ _ c.if-is_integer.value _ c.if-has_ty.false refl
    (elim c.if-is_integer.branch [
      | then-is_integer w ↦ two_then _ _ _ _ _ w.if-is_integer.true w.value-is (c.is_integer.ensures (names_of c.args.self.now)) (w.has_ty.ensures)
      | else-is_integer w ↦ two_else _ _ _ _ w.if-is_integer.false w.value-is (c.is_integer.ensures (names_of c.args.self.now))
    ])
