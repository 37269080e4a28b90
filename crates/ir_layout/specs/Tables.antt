-- What a table of layouts says, and when it says all.
use Rattle.std.specs.Prelude.{◌≡◌, ℕ, ◌<◌, ◌==◌, if◌then◌else◌, List, [], ◌∷◌, length, Option, Some, None, is_some, slice_get, slice_set, count_by, is_none}
use Rattle.std.specs.Option.{option_and_then}
use Rattle.std.specs.List.{IsDistinct, position_from}
use Rattle.std.specs.Str.{bytes_eq}
use Rattle.ir_tree.specs.NameTable.{text_of}
use Rattle.ir_tree.specs.Shape.{named}
use Rattle.ir_tree.specs.ShapeOf.{module_shape}
use Rattle.ir_tree.specs.declared.types.Ty.{Ty}
use Rattle.ir_tree.specs.declared.module.NamedTy.{NamedTy}
use Rattle.ir_tree.specs.declared.module.Module.{Module}
use Rattle.ir_layout.specs.declared.sizes.Layout.{Layout}
use Rattle.ir_layout.specs.Rules.{HasLayout}
use Rattle.ir_layout.specs.Computed.{named_at, ty_layout}

-- the layout that a table has for a name
abbrev pub InTable : List (List ℕ) → List (Option Layout) → List ℕ → Layout → Type 0
InTable names layouts name l = (id : ℕ) × (text_of names id ≡ name) × (slice_get layouts id ≡ Some (Some l))

-- the layouts in a table are those of the names
pub record IsSoundTable (m : Module) (layouts : List (Option Layout)) : Type 0 where
  pub distinct : IsDistinct bytes_eq m.names
  pub long : length layouts ≡ length m.names
  pub sound : (id : ℕ) (l : Layout) → slice_get layouts id ≡ Some (Some l) → HasLayout (module_shape m).types (named (text_of m.names id)) l

-- a table has exactly the layouts of the names
pub record IsWholeTable (m : Module) (layouts : List (Option Layout)) : Type 0 where
  pub is_sound : IsSoundTable m layouts
  pub whole : (id : ℕ) (l : Layout) → id < length m.names → HasLayout (module_shape m).types (named (text_of m.names id)) l → slice_get layouts id ≡ Some (Some l)

-- the type that the name of a number stands for: that of the first named type with it
abbrev pub type_of_number : List NamedTy → ℕ → Option Ty
type_of_number [] id = None
type_of_number (t ∷ ts) id = if t.name.0 == id then Some t.ty else type_of_number ts id

-- which is the first named type with the number of a name, among those from some place on
abbrev pub first_from : ℕ → List NamedTy → ℕ → Option ℕ
first_from at ts id = position_from (λ t. t.name.0 == id) at ts

-- for each name, which is the first named type with it
abbrev pub AreFirst : List NamedTy → List (Option ℕ) → Type 0
AreFirst ts first = (id : ℕ) → id < length first → slice_get first id ≡ Some (first_from 0 ts id)

-- the layout that a name without one gets by the others in the table
abbrev pub new_layout : List NamedTy → List (Option Layout) → ℕ → Option Layout
new_layout ts layouts id =
    if is_some (named_at layouts id) then None else option_and_then (ty_layout layouts) (type_of_number ts id)

-- the table where a name has got a layout, if it got one
abbrev pub with_layout : List (Option Layout) → ℕ → Option Layout → List (Option Layout)
with_layout layouts id None = layouts
with_layout layouts id (Some l) = slice_set layouts id (Some l)

-- how many names have no layout
abbrev pub count_empty : List (Option Layout) → ℕ
count_empty layouts = count_by is_none layouts

-- no name below the number gets a layout by the others
abbrev pub AreStuck : List NamedTy → List (Option Layout) → ℕ → Type 0
AreStuck ts layouts below = (id : ℕ) → id < below → new_layout ts layouts id ≡ None
