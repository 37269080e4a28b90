use Rattle.std.proofs.Common.{◌≡◌, map, take}
use Rattle.ir_tree.specs.ShapeOf.{module_shape, ty_shape}
use Rattle.program_steps.specs.Laid.{laid_of}
use Rattle.program_steps.specs.LaidShapes.{laid_shape}
use Rattle.program_steps.proofs.steps.lay_named.Given as goal

abbrev pub invariant-loop-named : goal.invariant-loop-named
invariant-loop-named l =
    (l.named-items ≡ l.m.types.items)
    × (map (laid_shape l.m.names) l.laid.items
    ≡ map (λ t. laid_of (module_shape l.m).types (ty_shape l.m.names t.ty)) (take l.named-index l.m.types.items))
