use Rattle.std.proofs.Common.{refl}
use Rattle.ir_check_insts.specs.Surroundings.{names_of}
use Rattle.ir_check_insts.proofs.Tests.{two_then, two_else}
use Rattle.ir_check_insts.proofs.around.Around.is_load.Goals as goal

pub returns-then-is_storable : goal.returns-then-is_storable
returns-then-is_storable c = two_then _ _ c.is_storable.result c.fits_as_address.result _ c.if-is_storable.true refl (c.is_storable.ensures (names_of c.args.self.now)) (c.fits_as_address.ensures)

pub returns-else-is_storable : goal.returns-else-is_storable
returns-else-is_storable c = two_else _ _ c.is_storable.result _ c.if-is_storable.false refl (c.is_storable.ensures (names_of c.args.self.now))
