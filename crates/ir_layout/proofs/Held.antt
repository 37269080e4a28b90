-- A type has a layout only where what it holds has one, so none has that holds itself.
use Rattle.std.proofs.Common.{◌≡◌, ℕ, zero, suc, ◌<◌, inl, inr, List, [], ◌∷◌, Some, sym, ◌∙◌, subst, arith}
use Rattle.ir_tree.specs.Shape.{TyShape, TyShapes, integer, pointer, void, array, structure, named, no_types, types, NamedTyShape}
use Rattle.ir_layout.specs.declared.sizes.Layout.{Layout}
use Rattle.ir_layout.specs.Rules.{LaidBy, AreLaidBy, NameHasWithin, IsSized, HoldsName, RowHoldsName, HoldsInside, directly, through}

mutual
  unfolding LaidBy AreLaidBy HoldsName RowHoldsName

  held_laid : (N : List ℕ → Layout → Type 0) (t : TyShape) (l : Layout) (name : List ℕ) → LaidBy N t l → HoldsName t name → (k : Layout) × N name k
  held_laid N (integer bits) l name has none = absurd none
  held_laid N pointer l name has none = absurd none
  held_laid N void l name has none = absurd none
  held_laid N (array count t) l name (element, has, small, is) holds = held_laid N t element name has holds
  held_laid N (structure row packed) l name (fields, have, small, is) holds = row_held_laid N row fields name have holds
  held_laid N (named other) l name has same = (l, subst (λ (z : List ℕ). N z l) same has)

  row_held_laid : (N : List ℕ → Layout → Type 0) (row : TyShapes) (ls : List Layout) (name : List ℕ) → AreLaidBy N row ls → RowHoldsName row name
      → (k : Layout) × N name k
  row_held_laid N no_types ls name have none = absurd none
  row_held_laid N (types t row) [] name none holds = absurd none
  row_held_laid N (types t row) (l ∷ ls) name (has, have) (inl holds) = held_laid N t l name has holds
  row_held_laid N (types t row) (l ∷ ls) name (has, have) (inr holds) = row_held_laid N row ls name have holds

-- what a type that has a layout holds has one
pub held_sized : (ts : List NamedTyShape) (t : TyShape) (name : List ℕ) → IsSized ts t → HoldsName t name → IsSized ts (named name)
unfolding LaidBy AreLaidBy
held_sized ts t name (l, (depth, has)) holds =
    let inside = held_laid (NameHasWithin depth ts) t l name has holds in
    (inside.0, (depth, inside.1))

some_ty : (t u : TyShape) → Some t ≡ Some u → t ≡ u
some_ty t u e = cc

-- what a named type holds nests less deep
descends : (ts : List NamedTyShape) (outer inner : List ℕ) → HoldsInside ts outer inner → (d : ℕ) (l : Layout) → NameHasWithin d ts outer l
    → (e : ℕ) × (k : Layout) × (e < d) × NameHasWithin e ts inner k
unfolding NameHasWithin
descends ts outer inner (directly t stands holds) zero l none = absurd none
descends ts outer inner (directly t stands holds) (suc d) l (u, also, has) =
    let same : u ≡ t = some_ty u t (sym also ∙ stands) in
    let inside = held_laid (NameHasWithin d ts) t l inner (subst (λ (z : TyShape). LaidBy (NameHasWithin d ts) z l) same has) holds in
    (d, inside.0, omega arith, inside.1)
descends ts outer inner (through {middle = middle} first rest) d l has =
    let one = descends ts outer middle first d l has in
    let two = descends ts middle inner rest one.0 one.1 one.3 in
    (two.0, two.1, omega (arith, one.2, two.2), two.3)

never_within : (ts : List NamedTyShape) (name : List ℕ) → HoldsInside ts name name → (most d : ℕ) → d < most → (l : Layout) → NameHasWithin d ts name l → ⊥
never_within ts name holds zero d below l has = absurd (omega arith)
never_within ts name holds (suc most) d below l has =
    let inside = descends ts name name holds d l has in
    never_within ts name holds most inside.0 (omega (arith, below, inside.2)) inside.1 inside.3

-- a named type that holds itself has no layout
pub never_itself : (ts : List NamedTyShape) (name : List ℕ) → HoldsInside ts name name → IsSized ts (named name) → ⊥
unfolding LaidBy AreLaidBy
never_itself ts name holds (l, (depth, has)) = never_within ts name holds (suc depth) depth (omega arith) l has
