use Rattle.std.proofs.Common.{refl}
use Rattle.ir_check_insts.specs.Surroundings.{names_of}
use Rattle.ir_check_insts.proofs.Known.{ret_known}
use Rattle.ir_check_insts.proofs.Tests.{two_then, two_else}
use Rattle.ir_check_insts.proofs.around.Around.defined_has.Goals as goal

pub returns-then-same_ty : goal.returns-then-same_ty
returns-then-same_ty c =
    two_then _ _ c.same_ty.result c.are_of_params.result _ c.if-same_ty.true refl (c.same_ty.ensures (names_of c.args.self.now) c.requires.around.names.distinct c.requires.ret_names (ret_known _ c.args.f.now c.requires.function_names)) (rw c.deref.ensures.value at c.are_of_params.ensures)

pub returns-else-same_ty : goal.returns-else-same_ty
returns-else-same_ty c = two_else _ _ c.same_ty.result _ c.if-same_ty.false refl (c.same_ty.ensures (names_of c.args.self.now) c.requires.around.names.distinct c.requires.ret_names (ret_known _ c.args.f.now c.requires.function_names))
