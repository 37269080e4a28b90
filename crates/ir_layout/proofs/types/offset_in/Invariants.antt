use Rattle.std.proofs.Common.{◌≡◌, ◌≤◌, drop, map}
use Rattle.ir_layout.specs.Layout.{most_size}
use Rattle.ir_layout.specs.Computed.{offset_from, ty_layout}
use Rattle.ir_layout.proofs.types.offset_in.Given as goal

abbrev pub invariant-loop-field : goal.invariant-loop-field
invariant-loop-field l =
    (l.at ≤ most_size)
    × (offset_from l.packed l.at (map (ty_layout l.layouts) (drop l.field-index l.fields)) l.left
    ≡ offset_from l.packed 0 (map (ty_layout l.layouts) l.fields) l.initial.left)
