use Rattle.std.proofs.Common.{refl}
use Rattle.ir_check_insts.specs.Surroundings.{names_of}
use Rattle.ir_check_insts.proofs.Tests.{two_then, two_else}
use Rattle.ir_check_insts.proofs.around.Around.is_phi.Goals as goal

pub returns-then-is_scalar : goal.returns-then-is_scalar
returns-then-is_scalar c = two_then _ _ c.is_scalar.result c.inputs_have.result _ c.if-is_scalar.true refl (c.is_scalar.ensures (names_of c.args.self.now)) (c.inputs_have.ensures)

pub returns-else-is_scalar : goal.returns-else-is_scalar
returns-else-is_scalar c = two_else _ _ c.is_scalar.result _ c.if-is_scalar.false refl (c.is_scalar.ensures (names_of c.args.self.now))
