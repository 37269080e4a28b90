use Rattle.std.proofs.Common.{◌≡◌, ◌≤◌, drop, map, length}
use Rattle.ir_layout.specs.Layout.{most_size}
use Rattle.ir_layout.specs.Computed.{offset_from, ty_layout}
use Rattle.ir_sizes.specs.Nested.{layouts_within}
use Rattle.ir_sizes.proofs.nested.offset_among.Given as goal

abbrev pub invariant-loop-field : goal.invariant-loop-field
invariant-loop-field l =
    (l.at ≤ most_size)
    × (offset_from l.packed l.at (map (ty_layout (layouts_within l.m.types.items (length l.m.names) l.depth)) (drop l.field-index l.fields)) l.left
    ≡ offset_from l.packed 0 (map (ty_layout (layouts_within l.m.types.items (length l.m.names) l.depth)) l.fields) l.initial.left)
