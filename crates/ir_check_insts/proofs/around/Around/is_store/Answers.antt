use Rattle.std.proofs.Common.{refl}
use Rattle.ir_check_insts.specs.Surroundings.{names_of}
use Rattle.ir_check_insts.proofs.Tests.{two_then, two_else, three_then, three_else}
use Rattle.ir_check_insts.proofs.around.Around.is_store.Goals as goal
use Rattle.ir_check_insts.proofs.around.Around.is_store.Goals.{then-is_storable, else-is_storable}

pub returns-then-fits : goal.returns-then-fits
returns-then-fits c =
    three_then _ _ _ c.if-is_storable.value c.fits_as_address.result _ c.if-fits.true refl
    (elim c.if-is_storable.branch [
      | then-is_storable w ↦ two_then _ _ _ _ _ w.if-is_storable.true w.value-is (c.is_storable.ensures (names_of c.args.self.now)) (w.fits.ensures)
      | else-is_storable w ↦ two_else _ _ _ _ w.if-is_storable.false w.value-is (c.is_storable.ensures (names_of c.args.self.now))
    ])
    (c.fits_as_address.ensures)

pub returns-else-fits : goal.returns-else-fits
returns-else-fits c =
    three_else _ _ _ c.if-is_storable.value _ c.if-fits.false refl
    (elim c.if-is_storable.branch [
      | then-is_storable w ↦ two_then _ _ _ _ _ w.if-is_storable.true w.value-is (c.is_storable.ensures (names_of c.args.self.now)) (w.fits.ensures)
      | else-is_storable w ↦ two_else _ _ _ _ w.if-is_storable.false w.value-is (c.is_storable.ensures (names_of c.args.self.now))
    ])
