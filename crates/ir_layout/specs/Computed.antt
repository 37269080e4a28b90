-- The layout of a type as it is computed, where a table has the layouts of names by their numbers.
use Rattle.std.specs.Prelude.{ℕ, zero, suc, Bool, nat_le, if◌then◌else◌, List, [], ◌∷◌, Option, Some, None, slice_get, unwrap_or}
use Rattle.ir_tree.specs.declared.types.Ty.{Ty}
use Rattle.ir_tree.specs.declared.types.Ty.TheOpen as ty
use Rattle.ir_tree.specs.declared.types.Ty.TheFolds.{fold-Ty}
use Rattle.ir_layout.specs.declared.sizes.Layout.{Layout}
use Rattle.ir_layout.specs.Layout.{most_size, integer_layout, pointer_layout, array_layout, field_start, field_end, wider_align, rounded_up}

-- the layout, unless its size is too great
abbrev pub within_most : Layout → Option Layout
within_most l = if nat_le l.size most_size then Some l else None

-- so many elements of what has this layout
abbrev pub array_of : ℕ → Option Layout → Option Layout
array_of count None = None
array_of count (Some element) = within_most (array_layout count element)

-- a structure of these fields, the first of which comes after what ends at an offset and has an alignment
abbrev pub structure_from : Bool → ℕ → ℕ → List (Option Layout) → Option Layout
structure_from packed at align [] = within_most (rounded_up align at)
structure_from packed at align (None ∷ fields) = None
structure_from packed at align (Some field ∷ fields) =
    if nat_le (field_end packed at field) most_size
    then structure_from packed (field_end packed at field) (wider_align packed align field) fields
    else None

-- where the field of a number begins in such a structure
abbrev pub offset_from : Bool → ℕ → List (Option Layout) → ℕ → Option ℕ
offset_from packed at [] k = None
offset_from packed at (None ∷ fields) k = None
offset_from packed at (Some field ∷ fields) zero =
    if nat_le (field_end packed at field) most_size then Some (field_start packed at field) else None
offset_from packed at (Some field ∷ fields) (suc k) =
    if nat_le (field_end packed at field) most_size then offset_from packed (field_end packed at field) fields k else None

-- the layout of the name of a number
abbrev pub named_at : List (Option Layout) → ℕ → Option Layout
named_at layouts id = unwrap_or (slice_get layouts id) None

-- a type, by the layouts of its parts
abbrev pub layout_step : List (Option Layout) → ty.Ty-F (Option Layout) → Option Layout
layout_step layouts (ty.Int bits) = Some (integer_layout bits)
layout_step layouts ty.Ptr = Some pointer_layout
layout_step layouts ty.Void = None
layout_step layouts (ty.Array count element) = array_of count element.value
layout_step layouts (ty.Struct v packed) = structure_from packed 0 1 v.items
layout_step layouts (ty.Named id) = named_at layouts id.0

-- a type
abbrev pub ty_layout : List (Option Layout) → Ty → Option Layout
ty_layout layouts = fold-Ty (Option Layout) (layout_step layouts)
