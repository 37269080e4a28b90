use Rattle.std.proofs.Common.{arith}
use Rattle.ir_tree.specs.Shape.{integer}
use Rattle.ir_tree.specs.ShapeOf.{ty_shape}
use Rattle.ir_types.proofs.Joined.{one_tells}
use Rattle.ir_types.proofs.declares.are_one_i32.Goals as goal

pub returns-in-len1 : goal.returns-in-len1
returns-in-len1 c names =
    one_tells (ty_shape names) c.args.types.now c.ty-item.result (integer 32) c.is_integer_of.result (omega arith) c.ty-item.is (c.is_integer_of.ensures names)
