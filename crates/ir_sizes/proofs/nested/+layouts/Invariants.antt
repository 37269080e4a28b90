use Rattle.std.proofs.Common.{◌≡◌, ◌+◌, ◌≤◌, drop, map, length}
use Rattle.ir_layout.specs.Layout.{most_size}
use Rattle.ir_layout.specs.Computed.{structure_from, ty_layout}
use Rattle.ir_sizes.specs.Nested.{layouts_within}
use Rattle.ir_sizes.proofs.Measures.{work, work_of_name}
use Rattle.ir_sizes.proofs.nested.+layouts.Given as goal

abbrev pub decreases-layout_within : goal.decreases-layout_within
decreases-layout_within l = work l.m.now.types.items l.depth (goal.size-layout_within l)

abbrev pub decreases-structure_within : goal.decreases-structure_within
decreases-structure_within l = work l.m.now.types.items l.depth (goal.size-structure_within l) + 1

abbrev pub decreases-named_within : goal.decreases-named_within
decreases-named_within l = work_of_name l.m.now.types.items l.depth

abbrev pub invariant-structure_within-loop-field : goal.invariant-structure_within-loop-field
invariant-structure_within-loop-field l =
    (l.at ≤ most_size)
    × (structure_from l.packed l.at l.align (map (ty_layout (layouts_within l.m.types.items (length l.m.names) l.depth)) (drop l.field-index l.fields))
    ≡ structure_from l.packed 0 1 (map (ty_layout (layouts_within l.m.types.items (length l.m.names) l.depth)) l.fields))
