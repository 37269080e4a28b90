-- How a layout comes of those of the parts.
use Rattle.std.proofs.Common.{◌≡◌, ℕ, zero, suc, ◌*◌, ◌≤◌, max, Bool, List, ◌∷◌, Some, arith}
use Rattle.std.specs.Prelude.{◌↔◌}
use Rattle.ir_tree.specs.Shape.{TyShape, TyShapes, array, structure, types, named, NamedTyShape}
use Rattle.ir_layout.specs.declared.sizes.Layout.{Layout}
use Rattle.ir_layout.specs.Layout.{most_size, array_layout, structure_layout}
use Rattle.ir_layout.specs.Rules.{LaidBy, AreLaidBy, named_ty, NameHasWithin, HasLayout, HaveLayouts}
use Rattle.ir_layout.proofs.Relations.{laid_more, are_laid_more, within_more, name_has}

pub array_composed : (ts : List NamedTyShape) (count : ℕ) (t : TyShape) (l : Layout)
    → HasLayout ts (array count t) l ↔ ((element : Layout) × HasLayout ts t element × (count * element.size ≤ most_size) × (l ≡ array_layout count element))
unfolding LaidBy AreLaidBy
array_composed ts count t l = (
  λ has. let inside = has.1 in (inside.0, (has.0, inside.1), inside.2, inside.3),
  λ parts. let one = parts.1 in (one.0, (parts.0, one.1, parts.2, parts.3)),
)

pub structure_composed : (ts : List NamedTyShape) (row : TyShapes) (packed : Bool) (l : Layout)
    → HasLayout ts (structure row packed) l
    ↔ ((ls : List Layout) × HaveLayouts ts row ls × ((structure_layout packed ls).size ≤ most_size) × (l ≡ structure_layout packed ls))
unfolding LaidBy AreLaidBy
structure_composed ts row packed l = (
  λ has. let inside = has.1 in (inside.0, (has.0, inside.1), inside.2, inside.3),
  λ parts. let all = parts.1 in (all.0, (parts.0, all.1, parts.2, parts.3)),
)

pub row_composed : (ts : List NamedTyShape) (t : TyShape) (row : TyShapes) (l : Layout) (ls : List Layout)
    → HaveLayouts ts (types t row) (l ∷ ls) ↔ (HasLayout ts t l × HaveLayouts ts row ls)
unfolding LaidBy AreLaidBy
row_composed ts t row l ls = (
  λ have. let both = have.1 in ((have.0, both.0), (have.0, both.1)),
  λ parts.
      let one = parts.0 in
      let rest = parts.1 in
      let deep : ℕ = max one.0 rest.0 in
      let first : one.0 ≤ deep = omega arith in
      let more : rest.0 ≤ deep = omega arith in
      (deep, (laid_more _ _ (within_more ts one.0 deep first) t l one.1, are_laid_more _ _ (within_more ts rest.0 deep more) row ls rest.1)),
)

name_stands : (ts : List NamedTyShape) (name : List ℕ) (l : Layout) (d : ℕ) → NameHasWithin d ts name l
    → (t : TyShape) × (named_ty ts name ≡ Some t) × HasLayout ts t l
unfolding NameHasWithin
name_stands ts name l zero none = absurd none
name_stands ts name l (suc d) (t, stands, has) = (t, stands, (d, has))

pub name_composed : (ts : List NamedTyShape) (name : List ℕ) (l : Layout)
    → HasLayout ts (named name) l ↔ ((t : TyShape) × (named_ty ts name ≡ Some t) × HasLayout ts t l)
unfolding LaidBy AreLaidBy
name_composed ts name l = (
  λ has. name_stands ts name l has.0 has.1,
  λ parts. name_has ts name parts.0 l parts.1 parts.2,
)
