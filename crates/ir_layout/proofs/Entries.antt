-- A table of layouts stays sound as it fills, and is whole when nothing more can be entered.
use Rattle.std.proofs.Common.{◌≡◌, ℕ, ◌+◌, ◌<◌, inl, inr, Bool, true, false, List, [], ◌∷◌, length, map, Option, Some, None, refl, sym, ◌∙◌, ap, subst, arith, zero, suc, take, slice_get, ◌==◌, ltb-true}
use Rattle.std.proofs.Math.ListN.{set, replicate}
use Rattle.std.specs.Prelude.{is_some, is_none, if◌then◌else◌, ◌↔◌}
use Rattle.std.specs.Option.{option_and_then}
use Rattle.std.specs.List.{list_all, IsDistinct}
use Rattle.std.specs.Str.{bytes_eq}
use Rattle.std.proofs.lemmas.Bool.Decides.{eqb_tells}
use Rattle.std.proofs.lemmas.List.{length-set, length-replicate}
use Rattle.std.proofs.lemmas.Option.{slice_get_within}
use Rattle.std.proofs.lemmas.Slice.Eq.{bytes_eq-Decides}
use Rattle.ir_tree.specs.NameTable.{text_of}
use Rattle.ir_tree.specs.Shape.{TyShape, named, ty_row}
use Rattle.ir_tree.specs.ShapeOf.{ty_shape, named_ty_shape, module_shape}
use Rattle.ir_tree.specs.Known.{ty_known, named_ty_known, module_known}
use Rattle.ir_tree.specs.declared.types.Ty.{Ty}
use Rattle.ir_tree.specs.declared.module.NamedTy.{NamedTy}
use Rattle.ir_tree.specs.declared.module.Module.{Module}
use Rattle.ir_tree.proofs.Table.{one_number}
use Rattle.ir_tree.proofs.Grows.{and_left, and_right, and_both}
use Rattle.ir_layout.specs.declared.sizes.Layout.{Layout}
use Rattle.ir_layout.specs.Rules.{LaidBy, AreLaidBy, named_ty, NameHasWithin, HasLayout, HaveLayouts}
use Rattle.ir_layout.specs.Computed.{named_at, ty_layout}
use Rattle.ir_layout.specs.Tables.{InTable, IsSoundTable, IsWholeTable, type_of_number, new_layout, with_layout, count_empty, AreStuck}
use Rattle.ir_layout.proofs.Relations.{are_laid_more, are_laid_by_names, SaysMore, IsClosed, NameHas, name_has, one_layout, table_sound, table_complete}
use Rattle.ir_layout.proofs.Laid.{Fits, some_found, text_at, at_number, computed_right}
use Rattle.ir_layout.proofs.Slices.{get_set_same, get_set_other, get_replicate, count_set}

-- the named types of a module are known
pub types_known : (m : Module) → module_known m ≡ true → list_all (named_ty_known (length m.names)) m.types.items ≡ true
types_known m known = and_left _ _ (and_left _ _ (and_left _ _ known))

some_ty : (t u : Ty) → Some t ≡ Some u → t ≡ u
some_ty t u e = cc

-- what a number stands for has known names, and the number is known
pub number_known : (n : ℕ) (ts : List NamedTy) (id : ℕ) (t : Ty) → list_all (named_ty_known n) ts ≡ true → type_of_number ts id ≡ Some t
    → (ty_known n t ≡ true) × (id < n)
number_known n [] id t known e = cc
number_known n (x ∷ ts) id t known e =
    elim (eqb_tells x.name.0 id) [
      | inl h ↦
          let here : x.ty ≡ t = some_ty x.ty t (rw h.0 at e) in
          let both = and_left _ _ known in
          let below : x.name.0 < n = ltb-true x.name.0 n (and_left _ _ both) in
          (subst (λ (z : Ty). ty_known n z ≡ true) here (and_right _ _ both), omega (arith, below, h.1))
      | inr h ↦ number_known n ts id t (and_right _ _ known) (rw h.0 at e)
    ]

texts_differ : (names : List (List ℕ)) → IsDistinct bytes_eq names → (i j : ℕ) → i < length names → j < length names → (i ≡ j → ⊥)
    → bytes_eq (text_of names i) (text_of names j) ≡ true → ⊥
texts_differ names distinct i j h k apart same =
    let texts : text_of names i ≡ text_of names j = (bytes_eq-Decides (text_of names i) (text_of names j)).0 same in
    apart (one_number names distinct i j (text_of names j) (text_at names i h ∙ ap (λ (z : List ℕ). Some z) texts) (text_at names j k))

false_if_not : (b : Bool) → (b ≡ true → ⊥) → b ≡ false
false_if_not true h = absurd (h refl)
false_if_not false h = refl

-- the name of a number stands for the shape of what the number stands for
pub number_stands : (names : List (List ℕ)) → IsDistinct bytes_eq names → (ts : List NamedTy) (id : ℕ) (t : Ty) → list_all (named_ty_known (length names)) ts ≡ true
    → id < length names → type_of_number ts id ≡ Some t → named_ty (map (named_ty_shape names) ts) (text_of names id) ≡ Some (ty_shape names t)
number_stands names distinct [] id t known within e = cc
number_stands names distinct (x ∷ ts) id t known within e =
    elim (eqb_tells x.name.0 id) [
      | inl h ↦
          let here : x.ty ≡ t = some_ty x.ty t (rw h.0 at e) in
          let same = (bytes_eq-Decides (text_of names x.name.0) (text_of names id)).1 (ap (text_of names) h.1) in
          rw same (ap (λ (z : Ty). Some (ty_shape names z)) here)
      | inr h ↦
          let below : x.name.0 < length names = ltb-true x.name.0 (length names) (and_left _ _ (and_left _ _ known)) in
          let differ = false_if_not (bytes_eq (text_of names x.name.0) (text_of names id)) (texts_differ names distinct x.name.0 id below within h.1) in
          rw differ (number_stands names distinct ts id t (and_right _ _ known) within (rw h.0 at e))
    ]

some_shape : (t u : TyShape) → Some t ≡ Some u → t ≡ u
some_shape t u e = cc

-- a name that has a number stands for the shape of what the number stands for
abbrev pub HasNumber : List (List ℕ) → List NamedTy → List ℕ → TyShape → Type 0
HasNumber names ts name u =
    (id : ℕ) × (t : Ty) × (text_of names id ≡ name) × (type_of_number ts id ≡ Some t) × (ty_shape names t ≡ u)

eqb_same : (n : ℕ) → (n == n) ≡ true
eqb_same n =
    elim (eqb_tells n n) [
      | inl h ↦ h.0
      | inr h ↦ absurd (h.1 refl)
    ]

number_at : (names : List (List ℕ)) (x : NamedTy) (ts : List NamedTy) (name : List ℕ) (u : TyShape) (b : Bool) → bytes_eq (text_of names x.name.0) name ≡ b
    → (if b then Some (ty_shape names x.ty) else named_ty (map (named_ty_shape names) ts) name) ≡ Some u
    → (named_ty (map (named_ty_shape names) ts) name ≡ Some u → HasNumber names ts name u) → HasNumber names (x ∷ ts) name u
number_at names x ts name u true is e rest =
    (x.name.0, x.ty, (bytes_eq-Decides (text_of names x.name.0) name).0 is, rw (eqb_same x.name.0) refl, some_shape (ty_shape names x.ty) u e)
number_at names x ts name u false is e rest =
    let later = rest e in
    let first : type_of_number (x ∷ ts) later.0 ≡ Some later.1 =
    elim (eqb_tells x.name.0 later.0) [
      | inl h ↦
          let same = (bytes_eq-Decides (text_of names x.name.0) name).1 (ap (text_of names) h.1 ∙ later.2) in
          let wrong : true ≡ false = sym same ∙ is in
          cc
      | inr h ↦ rw h.0 later.3
    ] in
    (later.0, later.1, later.2, first, later.4)

pub stands_number : (names : List (List ℕ)) (ts : List NamedTy) (name : List ℕ) (u : TyShape) → named_ty (map (named_ty_shape names) ts) name ≡ Some u
    → HasNumber names ts name u
stands_number names [] name u e = cc
stands_number names (x ∷ ts) name u e =
    number_at names x ts name u (bytes_eq (text_of names x.name.0) name) refl e (stands_number names ts name u)

-- the table says no more than the names have
table_says : (m : Module) (layouts : List (Option Layout)) → IsSoundTable m layouts → SaysMore (InTable m.names layouts) (NameHas (module_shape m).types)
table_says m layouts s name l (id, text, has) =
    subst (λ (z : List ℕ). HasLayout (module_shape m).types (named z) l) text (s.sound id l has)

fits_of : (m : Module) (layouts : List (Option Layout)) → IsSoundTable m layouts → Fits m.names layouts
fits_of m layouts s = record { distinct = s.distinct; long = s.long }

-- what is computed by a sound table is the layout of the type
pub computed_sound : (m : Module) (layouts : List (Option Layout)) → IsSoundTable m layouts → (t : Ty) (l : Layout) → ty_known (length m.names) t ≡ true
    → ty_layout layouts t ≡ Some l → HasLayout (module_shape m).types (ty_shape m.names t) l
computed_sound m layouts s t l known e =
    table_sound (module_shape m).types (InTable m.names layouts) (table_says m layouts s) (ty_shape m.names t) l
    ((computed_right m.names layouts (fits_of m layouts s) t known l).0 e)

-- what is new for a name
new_parts : (ts : List NamedTy) (layouts : List (Option Layout)) (id : ℕ) (l : Layout) → new_layout ts layouts id ≡ Some l
    → (is_some (named_at layouts id) ≡ false) × ((t : Ty) × (type_of_number ts id ≡ Some t) × (ty_layout layouts t ≡ Some l))
new_parts ts layouts id l e = new_at (is_some (named_at layouts id)) (type_of_number ts id) refl refl e
  where
    new_at : (b : Bool) (o : Option Ty) → is_some (named_at layouts id) ≡ b → type_of_number ts id ≡ o
        → (if b then None else option_and_then (ty_layout layouts) o) ≡ Some l
        → (is_some (named_at layouts id) ≡ false) × ((t : Ty) × (type_of_number ts id ≡ Some t) × (ty_layout layouts t ≡ Some l))
    new_at true o is stands f = cc
    new_at false None is stands f = cc
    new_at false (Some t) is stands f = (is, (t, stands, f))

some_layout : (l k : Layout) → Some (Some l) ≡ Some (Some k) → l ≡ k
some_layout l k e = cc

-- a layout that is new for a name is the name's
new_has : (m : Module) → module_known m ≡ true → (layouts : List (Option Layout)) → IsSoundTable m layouts → (id : ℕ) (l : Layout)
    → new_layout m.types.items layouts id ≡ Some l → HasLayout (module_shape m).types (named (text_of m.names id)) l
new_has m known layouts s id l e =
    let parts = new_parts m.types.items layouts id l e in
    let t = parts.1.0 in
    let all = types_known m known in
    let stands = number_known (length m.names) m.types.items id t all parts.1.1 in
    name_has (module_shape m).types (text_of m.names id) (ty_shape m.names t) l
    (number_stands m.names s.distinct m.types.items id t all stands.1 parts.1.1)
    (computed_sound m layouts s t l stands.0 parts.1.2)

entered_with : (m : Module) → module_known m ≡ true → (layouts : List (Option Layout)) → IsSoundTable m layouts → (id : ℕ) → id < length layouts
    → (o : Option Layout) → new_layout m.types.items layouts id ≡ o → IsSoundTable m (with_layout layouts id o)
entered_with m known layouts s id within None e = s
entered_with m known layouts s id within (Some l) e = record {
  distinct = s.distinct;
  long = length-set layouts id (Some l) ∙ s.long;
  sound = λ k j has.
      elim (eqb_tells id k) [
        | inl h ↦
            let written = subst (λ (n : ℕ). slice_get (set layouts id (Some l)) n ≡ Some (Some l)) h.1 (get_set_same layouts id (Some l) within) in
            let one : l ≡ j = some_layout l j (sym written ∙ has) in
            subst (λ (z : Layout). HasLayout (module_shape m).types (named (text_of m.names k)) z) one
            (subst (λ (n : ℕ). HasLayout (module_shape m).types (named (text_of m.names n)) l) h.1 (new_has m known layouts s id l e))
        | inr h ↦ s.sound k j (sym (get_set_other layouts id k (Some l) h.1) ∙ has)
      ];
}

-- a sound table stays sound
pub entered_sound : (m : Module) → module_known m ≡ true → (layouts : List (Option Layout)) → IsSoundTable m layouts → (id : ℕ) → id < length layouts
    → IsSoundTable m (with_layout layouts id (new_layout m.types.items layouts id))
entered_sound m known layouts s id within = entered_with m known layouts s id within (new_layout m.types.items layouts id) refl

-- the table without layouts is sound
pub empty_sound : (m : Module) → IsDistinct bytes_eq m.names → IsSoundTable m (replicate (length m.names) None)
empty_sound m distinct = record {
  distinct = distinct;
  long = length-replicate (length m.names) None;
  sound = λ id l has. absurd (none_there (length m.names) id l has);
}
  where
    none_there : (n id : ℕ) (l : Layout) → slice_get (replicate n None) id ≡ Some (Some l) → ⊥
    none_there n id l has =
        let few = slice_get_within (replicate n None) id (Some l) has in
        let wrong : ◌≡◌ {A = Option (Option Layout)} (Some None) (Some (Some l)) = sym (get_replicate n id None (omega (arith, few, length-replicate {A = Option Layout} n None))) ∙ has in
        cc

-- one name less is without a layout
none_at : (layouts : List (Option Layout)) (id : ℕ) → id < length layouts → is_some (named_at layouts id) ≡ false → slice_get layouts id ≡ Some None
none_at [] id within e = absurd (omega arith)
none_at (None ∷ layouts) zero within e = refl
none_at (Some l ∷ layouts) zero within e = cc
none_at (o ∷ layouts) (suc id) within e = none_at layouts id (omega arith) e

pub entered_fewer : (ts : List NamedTy) (layouts : List (Option Layout)) (id : ℕ) (l : Layout) → id < length layouts → new_layout ts layouts id ≡ Some l
    → count_empty (with_layout layouts id (Some l)) + 1 ≡ count_empty layouts
entered_fewer ts layouts id l within e =
    count_set is_none layouts id None (Some l) (none_at layouts id within (new_parts ts layouts id l e).0) refl refl

new_gives : (ts : List NamedTy) (layouts : List (Option Layout)) (id : ℕ) (t : Ty) (l : Layout) → named_at layouts id ≡ None
    → type_of_number ts id ≡ Some t → ty_layout layouts t ≡ Some l → new_layout ts layouts id ≡ Some l
new_gives ts layouts id t l none stands e =
    ap (λ (o : Option Layout). if is_some o then None else option_and_then (ty_layout layouts) (type_of_number ts id)) none
    ∙ ap (option_and_then (ty_layout layouts)) stands ∙ e

module _ (m : Module) (known : module_known m ≡ true) (layouts : List (Option Layout)) (s : IsSoundTable m layouts) where
  -- what a name's number stands for gives its layout to the name
  number_has : (id : ℕ) (t : Ty) (l : Layout) → type_of_number m.types.items id ≡ Some t → HasLayout (module_shape m).types (ty_shape m.names t) l
      → HasLayout (module_shape m).types (named (text_of m.names id)) l
  number_has id t l stands has =
      let all = types_known m known in
      let both = number_known (length m.names) m.types.items id t all stands in
      name_has (module_shape m).types (text_of m.names id) (ty_shape m.names t) l (number_stands m.names s.distinct m.types.items id t all both.1 stands) has

  entered_at : (id : ℕ) (t : Ty) (l : Layout) (o : Option Layout) → named_at layouts id ≡ o → type_of_number m.types.items id ≡ Some t
      → new_layout m.types.items layouts id ≡ None → ty_layout layouts t ≡ Some l → slice_get layouts id ≡ Some (Some l)
  entered_at id t l None here stands stuck e =
      let wrong : ◌≡◌ {A = Option Layout} None (Some l) = sym stuck ∙ new_gives m.types.items layouts id t l here stands e in
      cc
  entered_at id t l (Some k) here stands stuck e =
      let there = some_found (slice_get layouts id) k here in
      let both = number_known (length m.names) m.types.items id t (types_known m known) stands in
      let has = number_has id t l stands (computed_sound m layouts s t l both.0 e) in
      let one : k ≡ l = one_layout (module_shape m).types (named (text_of m.names id)) k l (s.sound id k there) has in
      there ∙ ap (λ (z : Layout). Some (Some z)) one

  -- where nothing more can be entered, the table is closed
  closed_if_stuck : AreStuck m.types.items layouts (length layouts) → IsClosed (module_shape m).types (InTable m.names layouts)
  closed_if_stuck stuck name u l stands has =
      let number = stands_number m.names m.types.items name u stands in
      let both = number_known (length m.names) m.types.items number.0 number.1 (types_known m known) number.3 in
      let laid = subst (λ (z : TyShape). LaidBy (InTable m.names layouts) z l) (sym number.4) has in
      let computed = (computed_right m.names layouts (fits_of m layouts s) number.1 both.0 l).1 laid in
      let none = stuck number.0 (omega (arith, both.1, s.long)) in
      (number.0, number.2, entered_at number.0 number.1 l (named_at layouts number.0) refl number.3 none computed)

  -- and whole
  pub whole_if_stuck : AreStuck m.types.items layouts (length layouts) → IsWholeTable m layouts
  unfolding LaidBy AreLaidBy
  whole_if_stuck stuck = record {
    is_sound = s;
    whole = λ id l within has.
        at_number m.names layouts (fits_of m layouts s) id l within
        (table_complete (module_shape m).types (InTable m.names layouts) (closed_if_stuck stuck) (named (text_of m.names id)) l has);
  }

-- a whole table is closed
closed_if_whole : (m : Module) → module_known m ≡ true → (layouts : List (Option Layout)) → IsWholeTable m layouts → IsClosed (module_shape m).types (InTable m.names layouts)
closed_if_whole m known layouts w name u l stands has =
    let number = stands_number m.names m.types.items name u stands in
    let both = number_known (length m.names) m.types.items number.0 number.1 (types_known m known) number.3 in
    let there = table_sound (module_shape m).types (InTable m.names layouts) (table_says m layouts w.is_sound) u l has in
    let here = subst (λ (z : TyShape). HasLayout (module_shape m).types z l) (sym number.4) there in
    (number.0, number.2, w.whole number.0 l both.1 (number_has m known layouts w.is_sound number.0 number.1 l number.3 here))

-- what is computed by a whole table is exactly the layout of the type
pub whole_computed : (m : Module) → module_known m ≡ true → (layouts : List (Option Layout)) → IsWholeTable m layouts → (t : Ty) → ty_known (length m.names) t ≡ true
    → (l : Layout) → (ty_layout layouts t ≡ Some l) ↔ HasLayout (module_shape m).types (ty_shape m.names t) l
whole_computed m known layouts w t names l = (
  λ e. computed_sound m layouts w.is_sound t l names e,
  λ has. (computed_right m.names layouts (fits_of m layouts w.is_sound) t names l).1
      (table_complete (module_shape m).types (InTable m.names layouts) (closed_if_whole m known layouts w) (ty_shape m.names t) l has),
)

-- and so for the types of a row
pub row_computed : (m : Module) → module_known m ≡ true → (layouts : List (Option Layout)) → IsWholeTable m layouts → (d : ℕ) (ts : List Ty)
    → list_all (ty_known (length m.names)) ts ≡ true → (ls : List Layout)
    → AreLaidBy (NameHasWithin d (module_shape m).types) (ty_row (map (ty_shape m.names) ts)) ls → map (ty_layout layouts) ts ≡ map (λ f. Some f) ls
unfolding LaidBy AreLaidBy
row_computed m known layouts w d [] names [] have = refl
row_computed m known layouts w d [] names (l ∷ ls) none = absurd none
row_computed m known layouts w d (t ∷ ts) names [] none = absurd none
row_computed m known layouts w d (t ∷ ts) names (l ∷ ls) (has, have) =
    let head = (whole_computed m known layouts w t (and_left _ _ names) l).1 (d, has) in
    ap (λ (o : Option Layout). o ∷ map (ty_layout layouts) ts) head
    ∙ ap (λ (os : List (Option Layout)). Some l ∷ os) (row_computed m known layouts w d ts (and_right _ _ names) ls have)

in_table_row : (m : Module) (layouts : List (Option Layout)) → IsSoundTable m layouts → (ts : List Ty) → list_all (ty_known (length m.names)) ts ≡ true
    → (ls : List Layout) → map (ty_layout layouts) ts ≡ map (λ f. Some f) ls → AreLaidBy (InTable m.names layouts) (ty_row (map (ty_shape m.names) ts)) ls
unfolding LaidBy AreLaidBy
in_table_row m layouts s [] names [] e = tt
in_table_row m layouts s [] names (l ∷ ls) e = cc
in_table_row m layouts s (t ∷ ts) names [] e = cc
in_table_row m layouts s (t ∷ ts) names (l ∷ ls) e =
    let head : ty_layout layouts t ≡ Some l = cc in
    let rest : map (ty_layout layouts) ts ≡ map (λ f. Some f) ls = cc in
    ((computed_right m.names layouts (fits_of m layouts s) t (and_left _ _ names) l).0 head, in_table_row m layouts s ts (and_right _ _ names) ls rest)

-- the layouts that are computed of the types of a row are theirs
pub row_sound : (m : Module) (layouts : List (Option Layout)) → IsSoundTable m layouts → (ts : List Ty) → list_all (ty_known (length m.names)) ts ≡ true
    → (ls : List Layout) → map (ty_layout layouts) ts ≡ map (λ f. Some f) ls → HaveLayouts (module_shape m).types (ty_row (map (ty_shape m.names) ts)) ls
row_sound m layouts s ts names ls e =
    are_laid_by_names (module_shape m).types (ty_row (map (ty_shape m.names) ts)) ls
    (are_laid_more (InTable m.names layouts) (NameHas (module_shape m).types) (table_says m layouts s) (ty_row (map (ty_shape m.names) ts)) ls
    (in_table_row m layouts s ts names ls e))

-- what holds of all holds of the first ones
pub take_known : (n k : ℕ) (ts : List Ty) → list_all (ty_known n) ts ≡ true → list_all (ty_known n) (take k ts) ≡ true
take_known n zero ts names = refl
take_known n (suc k) [] names = refl
take_known n (suc k) (t ∷ ts) names = and_both (and_left _ _ names) (take_known n k ts (and_right _ _ names))
