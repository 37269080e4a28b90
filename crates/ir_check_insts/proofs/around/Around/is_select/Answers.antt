use Rattle.std.proofs.Common.{refl}
use Rattle.ir_check_insts.specs.Surroundings.{names_of}
use Rattle.ir_check_insts.proofs.Tests.{two_then, two_else, three_then, three_else, four_then, four_else}
use Rattle.ir_check_insts.proofs.around.Around.is_select.Goals as goal
use Rattle.ir_check_insts.proofs.around.Around.is_select.Goals.{then-fits_as_bit, else-fits_as_bit, then-is_scalar, else-is_scalar}

pub returns-then-fits : goal.returns-then-fits
returns-then-fits c =
    four_then _ _ _ _ c.if-is_scalar.value c.fits_as.result _ c.if-fits.true refl
    (elim c.if-is_scalar.branch [
      | then-is_scalar w ↦
          three_then _ _ _ _ _ _ w.if-is_scalar.true w.value-is
          (elim c.if-fits_as_bit.branch [
            | then-fits_as_bit v ↦ two_then _ _ _ _ _ v.if-fits_as_bit.true v.value-is (c.fits_as_bit.ensures) (v.is_scalar.ensures (names_of c.args.self.now))
            | else-fits_as_bit v ↦ two_else _ _ _ _ v.if-fits_as_bit.false v.value-is (c.fits_as_bit.ensures)
          ])
          (w.fits.ensures)
      | else-is_scalar w ↦
          three_else _ _ _ _ _ w.if-is_scalar.false w.value-is
          (elim c.if-fits_as_bit.branch [
            | then-fits_as_bit v ↦ two_then _ _ _ _ _ v.if-fits_as_bit.true v.value-is (c.fits_as_bit.ensures) (v.is_scalar.ensures (names_of c.args.self.now))
            | else-fits_as_bit v ↦ two_else _ _ _ _ v.if-fits_as_bit.false v.value-is (c.fits_as_bit.ensures)
          ])
    ])
    (c.fits_as.ensures)

pub returns-else-fits : goal.returns-else-fits
returns-else-fits c =
    four_else _ _ _ _ c.if-is_scalar.value _ c.if-fits.false refl
    (elim c.if-is_scalar.branch [
      | then-is_scalar w ↦
          three_then _ _ _ _ _ _ w.if-is_scalar.true w.value-is
          (elim c.if-fits_as_bit.branch [
            | then-fits_as_bit v ↦ two_then _ _ _ _ _ v.if-fits_as_bit.true v.value-is (c.fits_as_bit.ensures) (v.is_scalar.ensures (names_of c.args.self.now))
            | else-fits_as_bit v ↦ two_else _ _ _ _ v.if-fits_as_bit.false v.value-is (c.fits_as_bit.ensures)
          ])
          (w.fits.ensures)
      | else-is_scalar w ↦
          three_else _ _ _ _ _ w.if-is_scalar.false w.value-is
          (elim c.if-fits_as_bit.branch [
            | then-fits_as_bit v ↦ two_then _ _ _ _ _ v.if-fits_as_bit.true v.value-is (c.fits_as_bit.ensures) (v.is_scalar.ensures (names_of c.args.self.now))
            | else-fits_as_bit v ↦ two_else _ _ _ _ v.if-fits_as_bit.false v.value-is (c.fits_as_bit.ensures)
          ])
    ])
