use Rattle.std.proofs.Common.{◌≡◌, map, take}
use Rattle.ir_tree.specs.ShapeOf.{module_shape, ty_shape}
use Rattle.program_steps.specs.Laid.{laid_of}
use Rattle.program_steps.specs.LaidShapes.{laid_shape}
use Rattle.program_steps.proofs.laid.+laid.Given as goal

abbrev pub invariant-lay_all-loop-ty : goal.invariant-lay_all-loop-ty
invariant-lay_all-loop-ty l =
    map (laid_shape l.m.names) l.laid.items ≡ map (λ t. laid_of (module_shape l.m).types (ty_shape l.m.names t)) (take l.ty-index l.row)
