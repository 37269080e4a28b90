use Rattle.std.proofs.Common.{◌≡◌, ◌≤◌, drop, map}
use Rattle.ir_layout.specs.Layout.{most_size}
use Rattle.ir_layout.specs.Computed.{structure_from, ty_layout}
use Rattle.ir_layout.proofs.types.+types.Given as goal

abbrev pub invariant-structure_in-loop-field : goal.invariant-structure_in-loop-field
invariant-structure_in-loop-field l =
    (l.at ≤ most_size)
    × (structure_from l.packed l.at l.align (map (ty_layout l.layouts) (drop l.field-index l.fields))
    ≡ structure_from l.packed 0 1 (map (ty_layout l.layouts) l.fields))
