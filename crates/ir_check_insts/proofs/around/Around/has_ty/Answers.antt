use Rattle.std.proofs.Common.{refl}
use Rattle.ir_tree.specs.ShapeOf.{const_shape}
use Rattle.ir_rules.specs.Constants.{HasConst, IsPlain}
use Rattle.ir_check_insts.specs.Surroundings.{names_of, around_shape, ty_in}
use Rattle.ir_check_insts.proofs.Tests.{two_then, two_else}
use Rattle.ir_check_insts.proofs.around.Around.has_ty.Goals as goal

pub returns-then-has_const : goal.returns-then-has_const
returns-then-has_const c =
    rw c.in-Fixed.is (two_then
    (HasConst (around_shape c.args.self.now).within.types (const_shape (names_of c.args.self.now) c.in-Fixed.c) (ty_in c.args.self.now c.args.ty.now))
    (IsPlain (const_shape (names_of c.args.self.now) c.in-Fixed.c) (ty_in c.args.self.now c.args.ty.now))
    c.has_const.result c.is_plain.result _ c.if-has_const.true refl c.has_const.ensures (c.is_plain.ensures (names_of c.args.self.now)))

pub returns-else-has_const : goal.returns-else-has_const
returns-else-has_const c =
    rw c.in-Fixed.is (two_else
    (HasConst (around_shape c.args.self.now).within.types (const_shape (names_of c.args.self.now) c.in-Fixed.c) (ty_in c.args.self.now c.args.ty.now))
    (IsPlain (const_shape (names_of c.args.self.now) c.in-Fixed.c) (ty_in c.args.self.now c.args.ty.now))
    c.has_const.result _ c.if-has_const.false refl c.has_const.ensures)
