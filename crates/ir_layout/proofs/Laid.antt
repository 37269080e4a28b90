-- The computed layout of a type is the one that the rules give by what the table says.
use Rattle.std.proofs.Common.{◌≡◌, ℕ, ◌<◌, Bool, true, List, [], ◌∷◌, length, map, Option, Some, None, refl, sym, ◌∙◌, ap, subst, arith, ltb-true, slice_get, zero, suc}
use Rattle.std.specs.Prelude.{unwrap_or, ◌↔◌}
use Rattle.std.specs.List.{list_all, IsDistinct}
use Rattle.std.specs.Str.{bytes_eq}
use Rattle.std.proofs.lemmas.Option.{slice_get_within}
use Rattle.ir_tree.specs.NameTable.{text_of}
use Rattle.ir_tree.specs.Shape.{TyShape, ty_row}
use Rattle.ir_tree.specs.ShapeOf.{ty_step, ty_shape}
use Rattle.ir_tree.specs.Known.{ty_known_step, ty_known}
use Rattle.ir_tree.specs.declared.types.Ty.{Ty}
use Rattle.ir_tree.specs.declared.types.Ty.TheOpen as ty
use Rattle.ir_tree.specs.declared.types.Ty.TheFolds.{fold-roll-Ty, ind-Ty, map-Ty}
use Rattle.ir_tree.proofs.Table.{one_number}
use Rattle.ir_tree.proofs.Grows.{and_left, and_right}
use Rattle.ir_layout.specs.declared.sizes.Layout.{Layout}
use Rattle.ir_layout.specs.Layout.{array_layout}
use Rattle.ir_layout.specs.Rules.{LaidBy, AreLaidBy}
use Rattle.ir_layout.specs.Computed.{layout_step, ty_layout}
use Rattle.ir_layout.specs.Tables.{InTable}
use Rattle.ir_layout.proofs.Found.{within_gives, array_found, structure_found, structure_gives}

-- the table is as long as the names are, and they are distinct
pub record Fits (names : List (List ℕ)) (layouts : List (Option Layout)) : Type 0 where
  pub distinct : IsDistinct bytes_eq names
  pub long : length layouts ≡ length names

-- a layout that a table gives stands in it
pub some_found : (o : Option (Option Layout)) (l : Layout) → unwrap_or o None ≡ Some l → o ≡ Some (Some l)
some_found None l e = cc
some_found (Some o) l e = ap (λ (z : Option Layout). Some z) e

text_found : (o : Option (List ℕ)) (name : List ℕ) → o ≡ Some name → unwrap_or o [] ≡ name
text_found None name e = cc
text_found (Some x) name e = cc

-- a number within the table has a text
pub text_at : (names : List (List ℕ)) (id : ℕ) → id < length names → slice_get names id ≡ Some (text_of names id)
text_at [] id h = absurd (omega arith)
text_at (x ∷ xs) zero h = refl
text_at (x ∷ xs) (suc id) h = text_at xs id (omega arith)

-- the table has one layout for the name of a number: the one at the number
pub at_number : (names : List (List ℕ)) (layouts : List (Option Layout)) → Fits names layouts → (id : ℕ) (l : Layout) → id < length names
    → InTable names layouts (text_of names id) l → slice_get layouts id ≡ Some (Some l)
at_number names layouts fits id l known (other, name, has) =
    let within : other < length names = omega (arith, fits.long, slice_get_within layouts other (Some l) has) in
    let there : slice_get names other ≡ Some (text_of names id) = text_at names other within ∙ ap (λ (z : List ℕ). Some z) name in
    let same : other ≡ id = one_number names fits.distinct other id (text_of names id) there (text_at names id known) in
    subst (λ (n : ℕ). slice_get layouts n ≡ Some (Some l)) same has

-- the computed layout of a type is what the rules give
abbrev pub IsRight : List (List ℕ) → List (Option Layout) → Ty → Type 0
IsRight names layouts t =
    ty_known (length names) t ≡ true → (l : Layout) → (ty_layout layouts t ≡ Some l) ↔ LaidBy (InTable names layouts) (ty_shape names t) l

-- the types of a row have these layouts where they are computed
row_found : (names : List (List ℕ)) (layouts : List (Option Layout)) (ts : List ((t : Ty) × IsRight names layouts t))
    → list_all (λ b. b) (map (ty_known (length names)) (map (λ e. e.0) ts)) ≡ true
    → (fields : List Layout) → map (ty_layout layouts) (map (λ e. e.0) ts) ≡ map (λ f. Some f) fields
    → AreLaidBy (InTable names layouts) (ty_row (map (ty_shape names) (map (λ e. e.0) ts))) fields
unfolding LaidBy AreLaidBy
row_found names layouts [] known [] e = tt
row_found names layouts [] known (f ∷ fields) e = cc
row_found names layouts (t ∷ ts) known [] e = cc
row_found names layouts (t ∷ ts) known (f ∷ fields) e =
    let head : ty_layout layouts t.0 ≡ Some f = cc in
    let rest : map (ty_layout layouts) (map (λ e. e.0) ts) ≡ map (λ f. Some f) fields = cc in
    ((t.1 (and_left _ _ known) f).0 head, row_found names layouts ts (and_right _ _ known) fields rest)

row_gives : (names : List (List ℕ)) (layouts : List (Option Layout)) (ts : List ((t : Ty) × IsRight names layouts t))
    → list_all (λ b. b) (map (ty_known (length names)) (map (λ e. e.0) ts)) ≡ true
    → (fields : List Layout) → AreLaidBy (InTable names layouts) (ty_row (map (ty_shape names) (map (λ e. e.0) ts))) fields
    → map (ty_layout layouts) (map (λ e. e.0) ts) ≡ map (λ f. Some f) fields
unfolding LaidBy AreLaidBy
row_gives names layouts [] known [] have = refl
row_gives names layouts [] known (f ∷ fields) none = absurd none
row_gives names layouts (t ∷ ts) known [] none = absurd none
row_gives names layouts (t ∷ ts) known (f ∷ fields) (has, have) =
    let head : ty_layout layouts t.0 ≡ Some f = (t.1 (and_left _ _ known) f).1 has in
    ap (λ (o : Option Layout). o ∷ map (ty_layout layouts) (map (λ (e : (u : Ty) × IsRight names layouts u). e.0) ts)) head
    ∙ ap (λ (z : List (Option Layout)). Some f ∷ z) (row_gives names layouts ts (and_right _ _ known) fields have)

right_at : (names : List (List ℕ)) (layouts : List (Option Layout)) → Fits names layouts → (y : ty.Ty-F ((t : Ty) × IsRight names layouts t))
    → ty_known_step (length names) (map-Ty Ty Bool (ty_known (length names)) (map-Ty ((t : Ty) × IsRight names layouts t) Ty (λ e. e.0) y)) ≡ true
    → (l : Layout)
    → (layout_step layouts (map-Ty Ty (Option Layout) (ty_layout layouts) (map-Ty ((t : Ty) × IsRight names layouts t) Ty (λ e. e.0) y)) ≡ Some l)
    ↔ LaidBy (InTable names layouts) (ty_step names (map-Ty Ty TyShape (ty_shape names) (map-Ty ((t : Ty) × IsRight names layouts t) Ty (λ e. e.0) y))) l
unfolding LaidBy AreLaidBy
right_at names layouts fits (ty.Int bits) known l = (λ e. cc, λ is. cc)
right_at names layouts fits ty.Ptr known l = (λ e. cc, λ is. cc)
right_at names layouts fits ty.Void known l = (λ e. cc, λ none. absurd none)
right_at names layouts fits (ty.Array count element) known l = (
  λ e. let found = array_found count (ty_layout layouts element.value.0) l e in
      (found.0, (element.value.1 known found.0).0 found.1, found.2, found.3),
  λ has.
      let one : ty_layout layouts element.value.0 ≡ Some has.0 = (element.value.1 known has.0).1 has.1 in
      rw one (within_gives (array_layout count has.0) has.2 ∙ ap (λ (z : Layout). Some z) (sym has.3)),
)
right_at names layouts fits (ty.Struct v packed) known l = (
  λ e. let found = structure_found packed 0 1 (map (ty_layout layouts) (map (λ e. e.0) v.items)) l e in
      (found.0, row_found names layouts v.items known found.0 found.1, found.2, found.3),
  λ has.
      let all = row_gives names layouts v.items known has.0 has.1 in
      rw all (structure_gives packed 0 1 has.0 has.2 ∙ ap (λ (z : Layout). Some z) (sym has.3)),
)
right_at names layouts fits (ty.Named id) known l = (
  λ e. (id.0, refl, some_found (slice_get layouts id.0) l e),
  λ has. ap (λ (o : Option (Option Layout)). unwrap_or o None) (at_number names layouts fits id.0 l (ltb-true id.0 (length names) known) has),
)

pub computed_right : (names : List (List ℕ)) (layouts : List (Option Layout)) → Fits names layouts → (t : Ty) → IsRight names layouts t
computed_right names layouts fits = ind-Ty (IsRight names layouts) (λ x y is known l.
    let here : ty_known_step (length names) (map-Ty Ty Bool (ty_known (length names)) x) ≡ true =
    sym (fold-roll-Ty Bool (ty_known_step (length names)) x) ∙ known in
    let step = subst (λ z. ty_known_step (length names) (map-Ty Ty Bool (ty_known (length names)) z) ≡ true
    → (k : Layout) → (layout_step layouts (map-Ty Ty (Option Layout) (ty_layout layouts) z) ≡ Some k)
    ↔ LaidBy (InTable names layouts) (ty_step names (map-Ty Ty TyShape (ty_shape names) z)) k)
    is (right_at names layouts fits y) in
    let both = step here l in
    let computes = fold-roll-Ty (Option Layout) (layout_step layouts) x in
    let shapes = fold-roll-Ty TyShape (ty_step names) x in (
      λ e. subst (λ (z : TyShape). LaidBy (InTable names layouts) z l) (sym shapes) (both.0 (sym computes ∙ e)),
      λ has. computes ∙ both.1 (subst (λ (z : TyShape). LaidBy (InTable names layouts) z l) shapes has),
    ))
