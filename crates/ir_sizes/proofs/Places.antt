-- A type that has a layout and opens to a structure gives each field its place.
use Rattle.std.proofs.Common.{◌≡◌, ℕ, zero, suc, ◌-◌, ◌<◌, Bool, true, List, [], ◌∷◌, length, map, Option, Some, None, refl, sym, ◌∙◌, ap, subst, arith, ltb-true, Vec}
use Rattle.std.specs.declared.alloc.Global.{Global}
use Rattle.std.specs.List.{list_all, IsDistinct}
use Rattle.std.specs.Str.{bytes_eq}
use Rattle.ir_tree.specs.NameTable.{text_of}
use Rattle.ir_tree.specs.Shape.{TyShape, TyShapes, integer, pointer, void, array, structure, named, no_types, types, ty_row, NamedTyShape}
use Rattle.ir_tree.specs.ShapeOf.{ty_shape, ty_step, named_ty_shape, module_shape}
use Rattle.ir_tree.specs.Known.{ty_known, named_ty_known, module_known}
use Rattle.ir_tree.specs.declared.names.NameId.{NameId}
use Rattle.ir_tree.specs.declared.types.Ty.{Ty, out-Ty}
use Rattle.ir_tree.specs.declared.types.Ty.TheOpen as ty
use Rattle.ir_tree.specs.declared.types.Ty.TheVariants as variants
use Rattle.ir_tree.specs.declared.types.Ty.TheFolds.{map-Ty}
use Rattle.ir_tree.specs.declared.module.NamedTy.{NamedTy}
use Rattle.ir_tree.specs.declared.module.Module.{Module}
use Rattle.ir_tree.proofs.Table.{one_number}
use Rattle.ir_tree.proofs.Rows.{row_known}
use Rattle.ir_layout.specs.declared.sizes.Layout.{Layout}
use Rattle.ir_layout.specs.Layout.{fields_end, fields_align, field_offset}
use Rattle.ir_layout.specs.Rules.{LaidBy, AreLaidBy, named_ty, NameHasWithin, HasLayout, HaveLayouts, IsSized}
use Rattle.ir_layout.specs.Computed.{offset_from, ty_layout}
use Rattle.ir_layout.specs.Tables.{type_of_number}
use Rattle.ir_layout.proofs.Relations.{one_row}
use Rattle.ir_layout.proofs.Composed.{structure_composed, name_composed}
use Rattle.ir_layout.proofs.Laid.{text_at}
use Rattle.ir_layout.proofs.Found.{next_grows}
use Rattle.ir_layout.proofs.Places.{offset_gives}
use Rattle.ir_layout.proofs.Entries.{types_known, number_known, stands_number}
use Rattle.ir_rules.specs.Constants.{Opens, is_array, is_structure, is_name, row_at}
use Rattle.ir_openings.proofs.Once.{structure_opens, name_opens, opens_once}
use Rattle.ir_openings.proofs.Types.{layer_shape, structure_shape, structure_known, named_shape, named_known, rolled}
use Rattle.ir_sizes.specs.Nested.{layouts_within}
use Rattle.ir_sizes.specs.Fields.{HasField, HasPlaceWithin}
use Rattle.ir_sizes.proofs.Depth.{no_deeper}
use Rattle.ir_sizes.proofs.Computed.{row_within}

some_ty : (t u : Ty) → Some t ≡ Some u → t ≡ u
some_ty t u e = cc

some_shape : (t u : TyShape) → Some t ≡ Some u → t ≡ u
some_shape t u e = cc

-- what a type that has a layout opens to has it
opened_has : (ts : List NamedTyShape) (t u : TyShape) (l : Layout) → Opens ts t u → HasLayout ts t l → HasLayout ts u l
opened_has ts t u l (is_array count element) has = has
opened_has ts t u l (is_structure row packed) has = has
opened_has ts t u l (is_name name v w stands opens) has =
    let inside = (name_composed ts name l).0 has in
    let same = some_shape inside.0 v (sym inside.1 ∙ stands) in
    opened_has ts v w l opens (subst (λ (z : TyShape). HasLayout ts z l) same inside.2)

-- a field that is in a row has a layout in the row's
field_laid : (N : List ℕ → Layout → Type 0) (row : TyShapes) (ls : List Layout) (k : ℕ) (field : TyShape) → AreLaidBy N row ls → row_at row k ≡ Some field
    → k < length ls
unfolding LaidBy AreLaidBy
field_laid N no_types ls k field have at = cc
field_laid N (types t row) [] k field none at = absurd none
field_laid N (types t row) (l ∷ ls) zero field (has, have) at = omega arith
field_laid N (types t row) (l ∷ ls) (suc k) field (has, have) at = omega (arith, field_laid N row ls k field have at)

row_of : (row other : TyShapes) (packed p : Bool) → structure row packed ≡ structure other p → row ≡ other
row_of row other packed p e = cc

packed_of : (row other : TyShapes) (packed p : Bool) → structure row packed ≡ structure other p → packed ≡ p
packed_of row other packed p e = cc

-- a field of a type that has a layout has its place, in each row of layouts that the structure's fields have
pub has_place : (ts : List NamedTyShape) (t : TyShape) (k depth : ℕ) → depth ≡ length ts → IsSized ts t → HasField ts t k → (row : TyShapes) (packed : Bool)
    (ls : List Layout) → Opens ts t (structure row packed) → HaveLayouts ts row ls → HasPlaceWithin depth ts t k (field_offset packed 0 ls k)
has_place ts t k depth deep (l, has) (own, p, field, opens, at) row packed ls also have =
    let same = row_of own row p packed (opens_once ts t (structure own p) (structure row packed) opens also) in
    let there = subst (λ (z : TyShapes). row_at z k ≡ Some field) same at in
    let laid = subst (λ (d : ℕ). LaidBy (NameHasWithin d ts) t l) (sym deep) (no_deeper ts t l has) in
    (row, packed, ls, l, also, have, laid, field_laid (NameHasWithin have.0 ts) row ls k field have.1 there, refl)

-- and there is such a row
pub some_place : (ts : List NamedTyShape) (t : TyShape) (k depth : ℕ) → depth ≡ length ts → IsSized ts t → HasField ts t k
    → (at : ℕ) × HasPlaceWithin depth ts t k at
some_place ts t k depth deep (l, has) (row, packed, field, opens, at) =
    let inside = (structure_composed ts row packed l).0 (opened_has ts t (structure row packed) l opens has) in
    (field_offset packed 0 inside.0 k, has_place ts t k depth deep (l, has) (row, packed, field, opens, at) row packed inside.0 opens inside.1)

-- where the name of a number stands for a type, the number does
number_stands_for : (names : List (List ℕ)) → IsDistinct bytes_eq names → (ts : List NamedTy) → list_all (named_ty_known (length names)) ts ≡ true → (id : ℕ)
    → id < length names → (u : TyShape) → named_ty (map (named_ty_shape names) ts) (text_of names id) ≡ Some u
    → (t : Ty) × (type_of_number ts id ≡ Some t) × (ty_shape names t ≡ u)
number_stands_for names distinct ts known id within u stands =
    let number = stands_number names ts (text_of names id) u stands in
    let both = number_known (length names) ts number.0 number.1 known number.3 in
    let there = text_at names number.0 both.1 ∙ ap (λ (z : List ℕ). Some z) number.2 in
    let same = one_number names distinct number.0 id (text_of names id) there (text_at names id within) in
    (number.1, subst (λ (n : ℕ). type_of_number ts n ≡ Some number.1) same number.3, number.4)

-- a type that may be a structure, or open to one
abbrev pub MayBeStructure : TyShape → Type 0
MayBeStructure (integer bits) = ⊥
MayBeStructure pointer = ⊥
MayBeStructure void = ⊥
MayBeStructure (array count element) = ⊥
MayBeStructure (structure row packed) = Unit {0}
MayBeStructure (named name) = Unit {0}

may_be : (ts : List NamedTyShape) (t u : TyShape) → Opens ts t u → MayBeStructure u → MayBeStructure t
may_be ts t u (is_array count element) may = may
may_be ts t u (is_structure row packed) may = may
may_be ts t u (is_name name v w stands opens) may = tt

-- a type that is no structure and no name opens to none
pub opens_to_none : (names : List (List ℕ)) (ts : List NamedTyShape) (t : Ty) → ((v : Vec Ty Global) (packed : Bool) → t ≡ variants.Struct v packed → ⊥)
    → ((id : NameId) → t ≡ variants.Named id → ⊥) → (row : TyShapes) (packed : Bool) → Opens ts (ty_shape names t) (structure row packed) → ⊥
opens_to_none names ts t no_structure no_name row packed opens =
    by_layer (out-Ty t) refl (subst (λ (z : TyShape). Opens ts z (structure row packed)) (layer_shape names t) opens)
  where
    by_layer : (y : ty.Ty-F Ty) → out-Ty t ≡ y → Opens ts (ty_step names (map-Ty Ty TyShape (ty_shape names) y)) (structure row packed) → ⊥
    by_layer (ty.Int bits) e inside = may_be ts (integer bits) (structure row packed) inside tt
    by_layer ty.Ptr e inside = may_be ts pointer (structure row packed) inside tt
    by_layer ty.Void e inside = may_be ts void (structure row packed) inside tt
    by_layer (ty.Array count element) e inside = may_be ts (array count (ty_shape names element.value)) (structure row packed) inside tt
    by_layer (ty.Struct v p) e inside = no_structure v p (rolled t _ e ∙ variants.rolls-Struct v p)
    by_layer (ty.Named id) e inside = no_name id (rolled t _ e ∙ variants.rolls-Named id)

module _ (m : Module) (known : module_known m ≡ true) (distinct : IsDistinct bytes_eq m.names) where
  -- the place in a structure is the one that is computed
  place_in_structure : (depth : ℕ) (v : List Ty) (packed : Bool) (k at : ℕ) → list_all (ty_known (length m.names)) v ≡ true
      → HasPlaceWithin depth (module_shape m).types (structure (ty_row (map (ty_shape m.names) v)) packed) k at
      → offset_from packed 0 (map (ty_layout (layouts_within m.types.items (length m.names) depth)) v) k ≡ Some at
  unfolding LaidBy AreLaidBy
  place_in_structure depth v packed k at names (row, p, ls, l, opens, have, (fields, laid, small, is), within, place) =
      let own : TyShapes = ty_row (map (ty_shape m.names) v) in
      let same = structure_opens (module_shape m).types own packed (structure row p) opens in
      let mine = subst (λ (z : TyShapes). HaveLayouts (module_shape m).types z ls) (row_of row own p packed same) have in
      let one : ls ≡ fields = one_row (module_shape m).types own ls fields mine (depth, laid) in
      let all = row_within m known distinct depth v names fields laid in
      let few : k < length fields = omega (arith, within, ap length one) in
      let gives = offset_gives packed 0 fields k
      (omega (arith, small, next_grows (fields_align packed 1 fields) (fields_end packed 0 fields))) few in
      let there : at ≡ field_offset packed 0 fields k =
      place ∙ ap (λ (b : Bool). field_offset b 0 ls k) (packed_of row own p packed same) ∙ ap (λ (z : List Layout). field_offset packed 0 z k) one in
      ap (λ (os : List (Option Layout)). offset_from packed 0 os k) all ∙ gives ∙ ap (λ (n : ℕ). Some n) (sym there)

  -- the place in what a name stands for
  place_in_name : (depth id k at : ℕ) → id < length m.names → HasPlaceWithin depth (module_shape m).types (named (text_of m.names id)) k at
      → (t : Ty) × (type_of_number m.types.items id ≡ Some t) × HasPlaceWithin (depth - 1) (module_shape m).types (ty_shape m.names t) k at
  unfolding LaidBy AreLaidBy NameHasWithin
  place_in_name zero id k at known_id (row, packed, ls, l, opens, have, none, within, place) = absurd none
  place_in_name (suc depth) id k at known_id (row, packed, ls, l, opens, have, (u, stands, laid), within, place) =
      let less : depth ≡ suc depth - 1 = omega arith in
      let number = number_stands_for m.names distinct m.types.items (types_known m known) id known_id u stands in
      let opened = name_opens (module_shape m).types (text_of m.names id) (structure row packed) opens in
      let same = some_shape opened.0 u (sym opened.1 ∙ stands) in
      let inner : HasPlaceWithin depth (module_shape m).types u k at =
      (row, packed, ls, l, subst (λ (z : TyShape). Opens (module_shape m).types z (structure row packed)) same opened.2, have, laid, within, place) in
      let here = subst (λ (z : TyShape). HasPlaceWithin depth (module_shape m).types z k at) (sym number.2) inner in
      (number.0, number.1, subst (λ (d : ℕ). HasPlaceWithin d (module_shape m).types (ty_shape m.names number.0) k at) less here)

  -- each case of a type
  pub place_of_structure : (depth : ℕ) (t : Ty) (v : Vec Ty Global) (packed : Bool) (k at : ℕ) → t ≡ variants.Struct v packed → ty_known (length m.names) t ≡ true
      → HasPlaceWithin depth (module_shape m).types (ty_shape m.names t) k at
      → offset_from packed 0 (map (ty_layout (layouts_within m.types.items (length m.names) depth)) v.items) k ≡ Some at
  place_of_structure depth t v packed k at e names has =
      let all = sym (row_known (ty_known (length m.names)) v.items) ∙ sym (structure_known (length m.names) v packed) ∙ sym (ap (ty_known (length m.names)) e) ∙ names in
      let shape = ap (ty_shape m.names) e ∙ structure_shape m.names v packed in
      place_in_structure depth v.items packed k at all (subst (λ (z : TyShape). HasPlaceWithin depth (module_shape m).types z k at) shape has)

  number_of_name : (t : Ty) (id : NameId) → t ≡ variants.Named id → ty_known (length m.names) t ≡ true → id.0 < length m.names
  number_of_name t id e names = ltb-true id.0 (length m.names) (sym (named_known (length m.names) id) ∙ sym (ap (ty_known (length m.names)) e) ∙ names)

  place_of_name : (depth : ℕ) (t : Ty) (id : NameId) (k at : ℕ) → t ≡ variants.Named id → ty_known (length m.names) t ≡ true
      → HasPlaceWithin depth (module_shape m).types (ty_shape m.names t) k at
      → (u : Ty) × (type_of_number m.types.items id.0 ≡ Some u) × HasPlaceWithin (depth - 1) (module_shape m).types (ty_shape m.names u) k at
  place_of_name depth t id k at e names has =
      let shape = ap (ty_shape m.names) e ∙ named_shape m.names id in
      place_in_name depth id.0 k at (number_of_name t id e names) (subst (λ (z : TyShape). HasPlaceWithin depth (module_shape m).types z k at) shape has)

  -- there is none in a name where no named type may nest
  pub no_place_at_once : (depth : ℕ) (t : Ty) (id : NameId) (k at : ℕ) → depth ≡ 0 → t ≡ variants.Named id
      → HasPlaceWithin depth (module_shape m).types (ty_shape m.names t) k at → ⊥
  unfolding LaidBy AreLaidBy NameHasWithin
  no_place_at_once depth t id k at zero_is e has =
      let shape = ap (ty_shape m.names) e ∙ named_shape m.names id in
      let laid = subst (λ (d : ℕ). LaidBy (NameHasWithin d (module_shape m).types) (ty_shape m.names t) has.3) zero_is has.6 in
      subst (λ (z : TyShape). LaidBy (NameHasWithin 0 (module_shape m).types) z has.3) shape laid

  -- the place in a type that a name stands for
  pub place_inside : (depth : ℕ) (t u : Ty) (id : NameId) (k at : ℕ) → t ≡ variants.Named id → ty_known (length m.names) t ≡ true
      → type_of_number m.types.items id.0 ≡ Some u → HasPlaceWithin depth (module_shape m).types (ty_shape m.names t) k at
      → HasPlaceWithin (depth - 1) (module_shape m).types (ty_shape m.names u) k at
  place_inside depth t u id k at e names stands has =
      let inner = place_of_name depth t id k at e names has in
      subst (λ (z : Ty). HasPlaceWithin (depth - 1) (module_shape m).types (ty_shape m.names z) k at) (some_ty inner.0 u (sym inner.1 ∙ stands)) inner.2

  -- a name that stands for nothing has none
  pub no_place_inside : (depth : ℕ) (t : Ty) (id : NameId) (k at : ℕ) → t ≡ variants.Named id → ty_known (length m.names) t ≡ true
      → type_of_number m.types.items id.0 ≡ None → HasPlaceWithin depth (module_shape m).types (ty_shape m.names t) k at → ⊥
  no_place_inside depth t id k at e names none has =
      let inner = place_of_name depth t id k at e names has in
      let wrong : ◌≡◌ {A = Option Ty} (Some inner.0) None = sym inner.1 ∙ none in
      cc
