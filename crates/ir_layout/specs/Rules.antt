-- Which layout a type has, where types have names.
use Rattle.std.specs.Prelude.{◌≡◌, ℕ, zero, suc, ◌*◌, ◌≤◌, ◌⊎◌, if◌then◌else◌, List, [], ◌∷◌, Option, Some, None}
use Rattle.std.specs.Str.{bytes_eq}
use Rattle.ir_tree.specs.Shape.{TyShape, TyShapes, integer, pointer, void, array, structure, named, no_types, types, NamedTyShape}
use Rattle.ir_layout.specs.declared.sizes.Layout.{Layout}
use Rattle.ir_layout.specs.Layout.{most_size, integer_layout, pointer_layout, array_layout, structure_layout}

-- the layout of a type, where a relation says which layout each name has: none that holds `void`, and each array and structure has a
-- size that isn't too great
unfoldable mutual
  pub LaidBy : (List ℕ → Layout → Type 0) → TyShape → Layout → Type 0
  LaidBy N (integer bits) l = l ≡ integer_layout bits
  LaidBy N pointer l = l ≡ pointer_layout
  LaidBy N void l = ⊥
  LaidBy N (array count t) l =
      (element : Layout) × LaidBy N t element × (count * element.size ≤ most_size) × (l ≡ array_layout count element)
  LaidBy N (structure row packed) l =
      (fields : List Layout) × AreLaidBy N row fields × ((structure_layout packed fields).size ≤ most_size)
      × (l ≡ structure_layout packed fields)
  LaidBy N (named name) l = N name l

  pub AreLaidBy : (List ℕ → Layout → Type 0) → TyShapes → List Layout → Type 0
  AreLaidBy N no_types [] = Unit {0}
  AreLaidBy N no_types (l ∷ ls) = ⊥
  AreLaidBy N (types t row) [] = ⊥
  AreLaidBy N (types t row) (l ∷ ls) = LaidBy N t l × AreLaidBy N row ls

-- the type that a name stands for: that of the first named type with the name
abbrev pub named_ty : List NamedTyShape → List ℕ → Option TyShape
named_ty [] name = None
named_ty (t ∷ ts) name = if bytes_eq t.name name then Some t.ty else named_ty ts name

-- a name has this layout, and named types nest in it at most so deep
unfoldable pub NameHasWithin : ℕ → List NamedTyShape → List ℕ → Layout → Type 0
NameHasWithin zero ts name l = ⊥
NameHasWithin (suc depth) ts name l = (t : TyShape) × (named_ty ts name ≡ Some t) × LaidBy (NameHasWithin depth ts) t l

-- a type has this layout. One that holds itself by value nests without end, so it has none
abbrev pub HasLayout : List NamedTyShape → TyShape → Layout → Type 0
HasLayout ts t l = (depth : ℕ) × LaidBy (NameHasWithin depth ts) t l

-- a type has a layout
abbrev pub IsSized : List NamedTyShape → TyShape → Type 0
IsSized ts t = (l : Layout) × HasLayout ts t l

-- the types of a row have these layouts
abbrev pub HaveLayouts : List NamedTyShape → TyShapes → List Layout → Type 0
HaveLayouts ts row ls = (depth : ℕ) × AreLaidBy (NameHasWithin depth ts) row ls

-- a type holds a named type by value
unfoldable mutual
  pub HoldsName : TyShape → List ℕ → Type 0
  HoldsName (integer bits) name = ⊥
  HoldsName pointer name = ⊥
  HoldsName void name = ⊥
  HoldsName (array count t) name = HoldsName t name
  HoldsName (structure row packed) name = RowHoldsName row name
  HoldsName (named other) name = other ≡ name

  pub RowHoldsName : TyShapes → List ℕ → Type 0
  RowHoldsName no_types name = ⊥
  RowHoldsName (types t row) name = HoldsName t name ⊎ RowHoldsName row name

-- a named type holds another by value, directly or through others
pub data HoldsInside (ts : List NamedTyShape) : List ℕ → List ℕ → Type 0 where
  directly : {outer inner : List ℕ} (t : TyShape) → named_ty ts outer ≡ Some t → HoldsName t inner → HoldsInside ts outer inner
  through : {outer middle inner : List ℕ} → HoldsInside ts outer middle → HoldsInside ts middle inner → HoldsInside ts outer inner
