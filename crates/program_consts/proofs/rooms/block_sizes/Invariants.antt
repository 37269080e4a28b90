use Rattle.std.proofs.Common.{◌≡◌, ◌∷◌, map, take}
use Rattle.ir_tree.specs.ShapeOf.{module_shape, ty_shape}
use Rattle.ir_program.specs.Sizes.{ty_size}
use Rattle.program_consts.proofs.rooms.block_sizes.Given as goal

abbrev pub invariant-loop-global : goal.invariant-loop-global
invariant-loop-global l =
    let m = l.steps.«module».now in
    (l.global-items ≡ m.globals.items)
    × (l.sizes.items ≡ 0 ∷ map (λ g. ty_size (module_shape m).types (ty_shape m.names g.ty)) (take l.global-index m.globals.items))
