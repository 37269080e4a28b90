use Rattle.std.proofs.Common.{List, map, subst}
use Rattle.std.specs.Prelude.{◌↔◌, IsTrue}
use Rattle.ir_tree.specs.ShapeOf.{function_shape}
use Rattle.ir_tree.specs.declared.module.Function.{Function}
use Rattle.ir_check.specs.Mains.{SomeIsMain}
use Rattle.ir_check.proofs.main_function.has_main.Goals as goal

pub returns : goal.returns
returns c =
    subst (λ (z : List Function). IsTrue c.some_is_main.result ↔ SomeIsMain (map (function_shape c.args.m.now.names) z)) c.deref.ensures.value
    c.some_is_main.ensures
