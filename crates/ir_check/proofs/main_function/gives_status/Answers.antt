use Rattle.std.proofs.Common.{refl, arith}
use Rattle.ir_tree.specs.ShapeOf.{param_shape}
use Rattle.ir_check.proofs.Mains.{two_then, two_else, none_tells}
use Rattle.ir_check.proofs.main_function.gives_status.Goals as goal

pub returns-then-is_integer_of : goal.returns-then-is_integer_of
returns-then-is_integer_of c names =
    two_then _ _ c.is_integer_of.result c.is_empty.result _ c.if-is_integer_of.true refl (c.is_integer_of.ensures names)
    (none_tells (param_shape names) c.args.f.now.params.items _ c.is_empty.result (omega arith) c.is_empty.ensures)

pub returns-else-is_integer_of : goal.returns-else-is_integer_of
returns-else-is_integer_of c names = two_else _ _ c.is_integer_of.result _ c.if-is_integer_of.false refl (c.is_integer_of.ensures names)
