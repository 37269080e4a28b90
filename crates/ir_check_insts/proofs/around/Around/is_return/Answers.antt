use Rattle.std.proofs.Common.{refl}
use Rattle.ir_check_insts.specs.Surroundings.{names_of}
use Rattle.ir_tree.proofs.Grows.{and_left}
use Rattle.ir_check_insts.proofs.Known.{ret_known}
use Rattle.ir_check_insts.proofs.Tests.{two_then, two_else, three_then, three_else}
use Rattle.ir_check_insts.proofs.around.Around.is_return.Goals as goal
use Rattle.ir_check_insts.proofs.around.Around.is_return.Goals.{then-same_ty, else-same_ty}

pub returns-then-is_scalar : goal.returns-then-is_scalar
returns-then-is_scalar c =
    three_then _ _ _ c.if-same_ty.value c.fits.result _ c.if-is_scalar.true refl
    (elim c.if-same_ty.branch [
      | then-same_ty w ↦ two_then _ _ _ _ _ w.if-same_ty.true w.value-is (c.same_ty.ensures (names_of c.args.self.now) c.requires.around.names.distinct (and_left _ _ c.requires.known) (ret_known _ c.args.self.now.function.now c.requires.around.function_names)) (w.is_scalar.ensures (names_of c.args.self.now))
      | else-same_ty w ↦ two_else _ _ _ _ w.if-same_ty.false w.value-is (c.same_ty.ensures (names_of c.args.self.now) c.requires.around.names.distinct (and_left _ _ c.requires.known) (ret_known _ c.args.self.now.function.now c.requires.around.function_names))
    ])
    (c.fits.ensures)

pub returns-else-is_scalar : goal.returns-else-is_scalar
returns-else-is_scalar c =
    three_else _ _ _ c.if-same_ty.value _ c.if-is_scalar.false refl
    (elim c.if-same_ty.branch [
      | then-same_ty w ↦ two_then _ _ _ _ _ w.if-same_ty.true w.value-is (c.same_ty.ensures (names_of c.args.self.now) c.requires.around.names.distinct (and_left _ _ c.requires.known) (ret_known _ c.args.self.now.function.now c.requires.around.function_names)) (w.is_scalar.ensures (names_of c.args.self.now))
      | else-same_ty w ↦ two_else _ _ _ _ w.if-same_ty.false w.value-is (c.same_ty.ensures (names_of c.args.self.now) c.requires.around.names.distinct (and_left _ _ c.requires.known) (ret_known _ c.args.self.now.function.now c.requires.around.function_names))
    ])
