use Rattle.std.proofs.Common.{refl}
use Rattle.ir_check_insts.specs.Surroundings.{names_of}
use Rattle.ir_check_insts.proofs.Tests.{two_then, two_else}
use Rattle.ir_check_insts.proofs.around.Around.is_step.Goals as goal

pub returns-then-is_integer : goal.returns-then-is_integer
returns-then-is_integer c = two_then _ _ c.is_integer.result c.fits.result _ c.if-is_integer.true refl (c.is_integer.ensures (names_of c.args.self.now)) (c.fits.ensures)

pub returns-else-is_integer : goal.returns-else-is_integer
returns-else-is_integer c = two_else _ _ c.is_integer.result _ c.if-is_integer.false refl (c.is_integer.ensures (names_of c.args.self.now))
