use Rattle.ir_tree.specs.Shape.{integer}
use Rattle.ir_check_insts.specs.Surroundings.{names_of, around_shape, ty_val_in}
use Rattle.ir_check_insts.proofs.Tests.{stated_then, stated_else}
use Rattle.ir_check_insts.proofs.around.Around.fits_as_bit.Goals as goal

pub returns-then-is_bit : goal.returns-then-is_bit
returns-then-is_bit c =
    stated_then (around_shape c.args.self.now) (ty_val_in c.args.self.now c.args.x.now) (integer 1) c.is_bit.result c.fits.result c.if-is_bit.true
    (c.is_bit.ensures (names_of c.args.self.now)) c.fits.ensures

pub returns-else-is_bit : goal.returns-else-is_bit
returns-else-is_bit c =
    stated_else (around_shape c.args.self.now) (ty_val_in c.args.self.now c.args.x.now) (integer 1) c.is_bit.result c.if-is_bit.false
    (c.is_bit.ensures (names_of c.args.self.now))
