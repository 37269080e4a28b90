use Rattle.ir_tree.specs.Shape.{pointer}
use Rattle.ir_check_insts.specs.Surroundings.{names_of, around_shape, ty_val_in}
use Rattle.ir_check_insts.proofs.Tests.{stated_then, stated_else}
use Rattle.ir_check_insts.proofs.around.Around.fits_as_address.Goals as goal

pub returns-then-is_pointer : goal.returns-then-is_pointer
returns-then-is_pointer c =
    stated_then (around_shape c.args.self.now) (ty_val_in c.args.self.now c.args.x.now) pointer c.is_pointer.result c.fits.result c.if-is_pointer.true
    (c.is_pointer.ensures (names_of c.args.self.now)) c.fits.ensures

pub returns-else-is_pointer : goal.returns-else-is_pointer
returns-else-is_pointer c =
    stated_else (around_shape c.args.self.now) (ty_val_in c.args.self.now c.args.x.now) pointer c.is_pointer.result c.if-is_pointer.false
    (c.is_pointer.ensures (names_of c.args.self.now))
