use Rattle.std.proofs.Common.{refl}
use Rattle.ir_tree.specs.ShapeOf.{function_shape}
use Rattle.ir_check.proofs.Mains.{main_then, main_else}
use Rattle.ir_check.proofs.main_function.is_main.Goals as goal

pub returns-then-is_named : goal.returns-then-is_named
returns-then-is_named c =
    main_then (function_shape c.args.names.now c.args.f.now) c.is_named.result c.gives_status.result _ c.if-is_named.true refl c.is_named.ensures
    (c.gives_status.ensures c.args.names.now)

pub returns-else-is_named : goal.returns-else-is_named
returns-else-is_named c =
    main_else (function_shape c.args.names.now c.args.f.now) c.is_named.result _ c.if-is_named.false refl c.is_named.ensures
