-- Laws of which layout a type has.
use Rattle.std.proofs.Common.{◌≡◌, ℕ, zero, suc, ◌≤◌, max, List, [], ◌∷◌, Some, refl, sym, ◌∙◌, ap, subst, arith}
use Rattle.ir_tree.specs.Shape.{TyShape, TyShapes, integer, pointer, void, array, structure, named, no_types, types, NamedTyShape}
use Rattle.ir_layout.specs.declared.sizes.Layout.{Layout}
use Rattle.ir_layout.specs.Layout.{array_layout, structure_layout}
use Rattle.ir_layout.specs.Rules.{LaidBy, AreLaidBy, named_ty, NameHasWithin, HasLayout, HaveLayouts}

-- a relation says more than another
abbrev pub SaysMore : (List ℕ → Layout → Type 0) → (List ℕ → Layout → Type 0) → Type 0
SaysMore N M = (name : List ℕ) (l : Layout) → N name l → M name l

mutual
  unfolding LaidBy AreLaidBy

  pub laid_more : (N M : List ℕ → Layout → Type 0) → SaysMore N M → (t : TyShape) (l : Layout) → LaidBy N t l → LaidBy M t l
  laid_more N M h (integer bits) l is = is
  laid_more N M h pointer l is = is
  laid_more N M h void l none = none
  laid_more N M h (array count t) l (element, has, small, is) = (element, laid_more N M h t element has, small, is)
  laid_more N M h (structure row packed) l (fields, have, small, is) = (fields, are_laid_more N M h row fields have, small, is)
  laid_more N M h (named name) l has = h name l has

  pub are_laid_more : (N M : List ℕ → Layout → Type 0) → SaysMore N M → (row : TyShapes) (ls : List Layout) → AreLaidBy N row ls → AreLaidBy M row ls
  are_laid_more N M h no_types [] have = have
  are_laid_more N M h no_types (l ∷ ls) none = none
  are_laid_more N M h (types t row) [] none = none
  are_laid_more N M h (types t row) (l ∷ ls) (has, have) = (laid_more N M h t l has, are_laid_more N M h row ls have)

-- a relation gives a name one layout
abbrev pub IsFunctional : (List ℕ → Layout → Type 0) → Type 0
IsFunctional N = (name : List ℕ) (l k : Layout) → N name l → N name k → l ≡ k

mutual
  unfolding LaidBy AreLaidBy

  pub laid_once : (N : List ℕ → Layout → Type 0) → IsFunctional N → (t : TyShape) (l k : Layout) → LaidBy N t l → LaidBy N t k → l ≡ k
  laid_once N h (integer bits) l k is also = is ∙ sym also
  laid_once N h pointer l k is also = is ∙ sym also
  laid_once N h void l k none also = absurd none
  laid_once N h (array count t) l k (element, has, small, is) (other, gives, low, also) =
      is ∙ ap (array_layout count) (laid_once N h t element other has gives) ∙ sym also
  laid_once N h (structure row packed) l k (fields, have, small, is) (others, give, low, also) =
      is ∙ ap (structure_layout packed) (are_laid_once N h row fields others have give) ∙ sym also
  laid_once N h (named name) l k has gives = h name l k has gives

  pub are_laid_once : (N : List ℕ → Layout → Type 0) → IsFunctional N → (row : TyShapes) (ls ks : List Layout) → AreLaidBy N row ls → AreLaidBy N row ks → ls ≡ ks
  are_laid_once N h no_types [] [] have give = refl
  are_laid_once N h no_types [] (k ∷ ks) have none = absurd none
  are_laid_once N h no_types (l ∷ ls) ks none give = absurd none
  are_laid_once N h (types t row) [] ks none give = absurd none
  are_laid_once N h (types t row) (l ∷ ls) [] have none = absurd none
  are_laid_once N h (types t row) (l ∷ ls) (k ∷ ks) (has, have) (gives, give) =
      let one : l ≡ k = laid_once N h t l k has gives in
      let rest : ls ≡ ks = are_laid_once N h row ls ks have give in
      ap (λ (x : Layout). x ∷ ls) one ∙ ap (λ (xs : List Layout). k ∷ xs) rest

-- what nests so deep nests within more
pub within_more : (ts : List NamedTyShape) (d e : ℕ) → d ≤ e → SaysMore (NameHasWithin d ts) (NameHasWithin e ts)
unfolding NameHasWithin
within_more ts zero e le name l none = absurd none
within_more ts (suc d) zero le name l has = absurd (omega arith)
within_more ts (suc d) (suc e) le name l (t, stands, has) =
    (t, stands, laid_more (NameHasWithin d ts) (NameHasWithin e ts) (within_more ts d e (omega arith)) t l has)

some_ty : (t u : TyShape) → Some t ≡ Some u → t ≡ u
some_ty t u e = cc

-- a name has one layout
within_once : (ts : List NamedTyShape) (d : ℕ) → IsFunctional (NameHasWithin d ts)
unfolding NameHasWithin
within_once ts zero name l k none also = absurd none
within_once ts (suc d) name l k (t, stands, has) (u, also, gives) =
    let same : u ≡ t = some_ty u t (sym also ∙ stands) in
    laid_once (NameHasWithin d ts) (within_once ts d) t l k has (subst (λ (z : TyShape). LaidBy (NameHasWithin d ts) z k) same gives)

-- a type has one layout
pub one_layout : (ts : List NamedTyShape) (t : TyShape) (l k : Layout) → HasLayout ts t l → HasLayout ts t k → l ≡ k
one_layout ts t l k (d, has) (e, gives) =
    laid_once (NameHasWithin (max d e) ts) (within_once ts (max d e)) t l k
    (laid_more _ _ (within_more ts d (max d e) (omega arith)) t l has) (laid_more _ _ (within_more ts e (max d e) (omega arith)) t k gives)

-- and so have the types of a row
pub one_row : (ts : List NamedTyShape) (row : TyShapes) (ls ks : List Layout) → HaveLayouts ts row ls → HaveLayouts ts row ks → ls ≡ ks
one_row ts row ls ks (d, have) (e, give) =
    are_laid_once (NameHasWithin (max d e) ts) (within_once ts (max d e)) row ls ks
    (are_laid_more _ _ (within_more ts d (max d e) (omega arith)) row ls have) (are_laid_more _ _ (within_more ts e (max d e) (omega arith)) row ks give)

-- a name has the layout of the type that it stands for
pub name_has : (ts : List NamedTyShape) (name : List ℕ) (t : TyShape) (l : Layout) → named_ty ts name ≡ Some t → HasLayout ts t l → HasLayout ts (named name) l
unfolding LaidBy AreLaidBy NameHasWithin
name_has ts name t l stands (d, has) = (suc d, (t, stands, has))

-- where each name has a layout at some depth, the whole has it at the greatest
abbrev pub NameHas : List NamedTyShape → List ℕ → Layout → Type 0
NameHas ts name l = HasLayout ts (named name) l

mutual
  unfolding LaidBy AreLaidBy

  pub laid_by_names : (ts : List NamedTyShape) (t : TyShape) (l : Layout) → LaidBy (NameHas ts) t l → HasLayout ts t l
  laid_by_names ts (integer bits) l is = (0, is)
  laid_by_names ts pointer l is = (0, is)
  laid_by_names ts void l none = absurd none
  laid_by_names ts (array count t) l (element, has, small, is) =
      let deep = laid_by_names ts t element has in
      (deep.0, (element, deep.1, small, is))
  laid_by_names ts (structure row packed) l (fields, have, small, is) =
      let deep = are_laid_by_names ts row fields have in
      (deep.0, (fields, deep.1, small, is))
  laid_by_names ts (named name) l has = has

  pub are_laid_by_names : (ts : List NamedTyShape) (row : TyShapes) (ls : List Layout) → AreLaidBy (NameHas ts) row ls → (d : ℕ) × AreLaidBy (NameHasWithin d ts) row ls
  are_laid_by_names ts no_types [] have = (0, have)
  are_laid_by_names ts no_types (l ∷ ls) none = absurd none
  are_laid_by_names ts (types t row) [] none = absurd none
  are_laid_by_names ts (types t row) (l ∷ ls) (has, have) =
      let one = laid_by_names ts t l has in
      let rest = are_laid_by_names ts row ls have in
      let deep : ℕ = max one.0 rest.0 in
      let first : one.0 ≤ deep = omega arith in
      let more : rest.0 ≤ deep = omega arith in
      (deep, (laid_more _ _ (within_more ts one.0 deep first) t l one.1, are_laid_more _ _ (within_more ts rest.0 deep more) row ls rest.1))

-- a table is sound where each layout in it is one of the name's
pub table_sound : (ts : List NamedTyShape) (N : List ℕ → Layout → Type 0) → SaysMore N (NameHas ts) → (t : TyShape) (l : Layout) → LaidBy N t l → HasLayout ts t l
table_sound ts N sound t l has = laid_by_names ts t l (laid_more N (NameHas ts) sound t l has)

-- nothing more can be entered into a table
abbrev pub IsClosed : List NamedTyShape → (List ℕ → Layout → Type 0) → Type 0
IsClosed ts N = (name : List ℕ) (t : TyShape) (l : Layout) → named_ty ts name ≡ Some t → LaidBy N t l → N name l

closed_within : (ts : List NamedTyShape) (N : List ℕ → Layout → Type 0) → IsClosed ts N → (d : ℕ) → SaysMore (NameHasWithin d ts) N
unfolding NameHasWithin
closed_within ts N closed zero name l none = absurd none
closed_within ts N closed (suc d) name l (t, stands, has) =
    closed name t l stands (laid_more (NameHasWithin d ts) N (closed_within ts N closed d) t l has)

-- such a table has each layout
pub table_complete : (ts : List NamedTyShape) (N : List ℕ → Layout → Type 0) → IsClosed ts N → (t : TyShape) (l : Layout) → HasLayout ts t l → LaidBy N t l
table_complete ts N closed t l (d, has) = laid_more (NameHasWithin d ts) N (closed_within ts N closed d) t l has
