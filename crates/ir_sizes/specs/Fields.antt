-- The fields of the structure that a type is, by the types that names stand for.
use Rattle.std.specs.Prelude.{◌≡◌, ℕ, ◌<◌, Bool, List, Some, length}
use Rattle.ir_tree.specs.Shape.{TyShape, TyShapes, structure, NamedTyShape}
use Rattle.ir_layout.specs.declared.sizes.Layout.{Layout}
use Rattle.ir_layout.specs.Layout.{field_offset}
use Rattle.ir_layout.specs.Rules.{LaidBy, NameHasWithin, HaveLayouts}
use Rattle.ir_rules.specs.Constants.{Opens, row_at}

-- a type is a structure that has a field of this number
abbrev pub HasField : List NamedTyShape → TyShape → ℕ → Type 0
HasField ts t k = (row : TyShapes) × (packed : Bool) × (field : TyShape) × Opens ts t (structure row packed) × (row_at row k ≡ Some field)

-- where a type is a structure whose fields have layouts, the field of this number begins at this offset in it
abbrev pub IsOffset : List NamedTyShape → TyShape → ℕ → ℕ → Type 0
IsOffset ts t k at =
    (row : TyShapes) (packed : Bool) (ls : List Layout) → Opens ts t (structure row packed) → HaveLayouts ts row ls → at ≡ field_offset packed 0 ls k

-- a type is a structure, has a layout in which named types nest so deep at most, and a field of this number that begins at this offset
abbrev pub HasPlaceWithin : ℕ → List NamedTyShape → TyShape → ℕ → ℕ → Type 0
HasPlaceWithin depth ts t k at =
    (row : TyShapes) × (packed : Bool) × (ls : List Layout) × (l : Layout) × Opens ts t (structure row packed) × HaveLayouts ts row ls
    × LaidBy (NameHasWithin depth ts) t l × (k < length ls) × (at ≡ field_offset packed 0 ls k)
