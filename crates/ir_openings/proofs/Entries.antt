-- A table of openings stays sound as it fills, and has all when nothing more can be entered.
use Rattle.std.proofs.Common.{◌≡◌, ℕ, zero, suc, ◌+◌, ◌<◌, inl, inr, Bool, true, false, List, [], ◌∷◌, length, map, Option, Some, None, refl, sym, ◌∙◌, ap, subst, arith, slice_get, ltb-true}
use Rattle.std.proofs.Math.ListN.{set, replicate}
use Rattle.std.specs.Prelude.{is_some, is_none, unwrap_or, if◌then◌else◌}
use Rattle.std.specs.Option.{option_and_then}
use Rattle.std.specs.List.{IsDistinct}
use Rattle.std.specs.Str.{bytes_eq}
use Rattle.std.proofs.lemmas.Bool.Decides.{eqb_tells}
use Rattle.std.proofs.lemmas.List.{length-set, length-replicate}
use Rattle.std.proofs.lemmas.Option.{slice_get_within}
use Rattle.ir_tree.specs.NameTable.{text_of}
use Rattle.ir_tree.specs.Shape.{TyShape, TyShapes, array, structure, named, ty_row}
use Rattle.ir_tree.specs.ShapeOf.{ty_step, ty_shape, module_shape}
use Rattle.ir_tree.specs.Known.{ty_known_step, ty_known, module_known}
use Rattle.ir_tree.specs.declared.types.Ty.{Ty, out-Ty}
use Rattle.ir_tree.specs.declared.types.Ty.TheOpen as ty
use Rattle.ir_tree.specs.declared.types.Ty.TheFolds.{map-Ty}
use Rattle.ir_tree.specs.declared.module.NamedTy.{NamedTy}
use Rattle.ir_tree.specs.declared.module.Module.{Module}
use Rattle.ir_tree.proofs.Table.{one_number}
use Rattle.ir_layout.specs.Tables.{type_of_number, first_from}
use Rattle.ir_layout.proofs.Entries.{types_known, number_known, number_stands, stands_number}
use Rattle.ir_layout.proofs.Laid.{text_at}
use Rattle.ir_layout.proofs.Numbered.{first_found, none_found}
use Rattle.ir_layout.proofs.Slices.{get_set_same, get_set_other, get_replicate, count_set}
use Rattle.ir_rules.specs.Constants.{Opens, is_array, is_structure, is_name}
use Rattle.ir_openings.specs.Openings.{opening_in, IsOpening, AreSoundOpenings, AreOpenings, layer_opening, item_opening, name_opening, new_opening, with_opening, count_empty, AreStuck}
use Rattle.ir_openings.proofs.Types.{layer_shape, layer_known}
use Rattle.ir_openings.proofs.Once.{name_opens}

-- a number stands for the type of the first named type with it
abbrev pub IsFirstItem : List NamedTy → ℕ → ℕ → Ty → Type 0
IsFirstItem ts id at t = (item : NamedTy) × (first_from 0 ts id ≡ Some at) × (slice_get ts at ≡ Some item) × (item.ty ≡ t)

some_ty : (t u : Ty) → Some t ≡ Some u → t ≡ u
some_ty t u e = cc

some_at : (i j : ℕ) → ◌≡◌ {A = Option ℕ} (Some i) (Some j) → i ≡ j
some_at i j e = cc

first_item : (ts : List NamedTy) (id : ℕ) (t : Ty) → type_of_number ts id ≡ Some t → (at : ℕ) × IsFirstItem ts id at t
first_item ts id t stands = item_at (first_from 0 ts id) refl
  where
    item_at : (o : Option ℕ) → first_from 0 ts id ≡ o → (at : ℕ) × IsFirstItem ts id at t
    item_at None is =
        let wrong : ◌≡◌ {A = Option Ty} None (Some t) = sym (none_found 0 ts id is) ∙ stands in
        cc
    item_at (Some at) is =
        let found = first_found 0 ts id at is in
        let same : found.0 ≡ at = omega (arith, found.2) in
        (at, (found.1, is, subst (λ (k : ℕ). slice_get ts k ≡ Some found.1) same found.3, some_ty found.1.ty t (sym found.4 ∙ stands)))

-- the layer of a type by its shape
array_layer : (names : List (List ℕ)) (openings : List (Option ℕ)) (at : ℕ) (y : ty.Ty-F Ty) (count : ℕ) (element : TyShape)
    → ty_step names (map-Ty Ty TyShape (ty_shape names) y) ≡ array count element → layer_opening openings at y ≡ Some at
array_layer names openings at (ty.Int bits) count element e = cc
array_layer names openings at ty.Ptr count element e = cc
array_layer names openings at ty.Void count element e = cc
array_layer names openings at (ty.Array n t) count element e = refl
array_layer names openings at (ty.Struct v packed) count element e = refl
array_layer names openings at (ty.Named id) count element e = cc

structure_layer : (names : List (List ℕ)) (openings : List (Option ℕ)) (at : ℕ) (y : ty.Ty-F Ty) (row : TyShapes) (packed : Bool)
    → ty_step names (map-Ty Ty TyShape (ty_shape names) y) ≡ structure row packed → layer_opening openings at y ≡ Some at
structure_layer names openings at (ty.Int bits) row packed e = cc
structure_layer names openings at ty.Ptr row packed e = cc
structure_layer names openings at ty.Void row packed e = cc
structure_layer names openings at (ty.Array n t) row packed e = refl
structure_layer names openings at (ty.Struct v p) row packed e = refl
structure_layer names openings at (ty.Named id) row packed e = cc

-- a layer that is a name, which has a number
abbrev pub IsNameLayer : List (List ℕ) → List (Option ℕ) → ℕ → ty.Ty-F Ty → List ℕ → Type 0
IsNameLayer names openings at y name =
    (id : ℕ) × (text_of names id ≡ name) × (id < length names) × (layer_opening openings at y ≡ opening_in openings id)

name_layer : (names : List (List ℕ)) (openings : List (Option ℕ)) (at : ℕ) (y : ty.Ty-F Ty) (name : List ℕ)
    → ty_known_step (length names) (map-Ty Ty Bool (ty_known (length names)) y) ≡ true
    → ty_step names (map-Ty Ty TyShape (ty_shape names) y) ≡ named name → IsNameLayer names openings at y name
name_layer names openings at (ty.Int bits) name known e = cc
name_layer names openings at ty.Ptr name known e = cc
name_layer names openings at ty.Void name known e = cc
name_layer names openings at (ty.Array n t) name known e = cc
name_layer names openings at (ty.Struct v p) name known e = cc
name_layer names openings at (ty.Named id) name known e =
    let text : text_of names id.0 ≡ name = cc in
    (id.0, text, ltb-true id.0 (length names) known, refl)

-- distinct names have distinct texts
one_text : (names : List (List ℕ)) → IsDistinct bytes_eq names → (i j : ℕ) → i < length names → j < length names → text_of names i ≡ text_of names j
    → i ≡ j
one_text names distinct i j h k e =
    one_number names distinct i j (text_of names j) (text_at names i h ∙ ap (λ (z : List ℕ). Some z) e) (text_at names j k)

-- what is in a table within its length
in_table : (openings : List (Option ℕ)) (id at : ℕ) → opening_in openings id ≡ Some at → slice_get openings id ≡ Some (Some at)
in_table openings id at e = there (slice_get openings id) e
  where
    there : (o : Option (Option ℕ)) → unwrap_or o None ≡ Some at → o ≡ Some (Some at)
    there None e = cc
    there (Some o) e = ap (λ (z : Option ℕ). Some z) e

module _ (m : Module) (openings : List (Option ℕ)) (s : AreSoundOpenings m openings) where
  -- a type that is found opens to that of what is found
  abbrev pub OpensAt : Ty → ℕ → Type 0
  OpensAt t at =
      (item : NamedTy) × (slice_get m.types.items at ≡ Some item) × Opens (module_shape m).types (ty_shape m.names t) (ty_shape m.names item.ty)

  layer_opens : (item : NamedTy) (k at : ℕ) (y : ty.Ty-F Ty) → slice_get m.types.items k ≡ Some item
      → ty_shape m.names item.ty ≡ ty_step m.names (map-Ty Ty TyShape (ty_shape m.names) y) → layer_opening openings k y ≡ Some at → OpensAt item.ty at
  layer_opens item k at (ty.Int bits) there shape e = cc
  layer_opens item k at ty.Ptr there shape e = cc
  layer_opens item k at ty.Void there shape e = cc
  layer_opens item k at (ty.Array count element) there shape e = (
    item,
    subst (λ (n : ℕ). slice_get m.types.items n ≡ Some item) (some_at k at e) there,
    subst (λ (z : TyShape). Opens (module_shape m).types z z) (sym shape) (is_array count (ty_shape m.names element.value)),
  )
  layer_opens item k at (ty.Struct v packed) there shape e = (
    item,
    subst (λ (n : ℕ). slice_get m.types.items n ≡ Some item) (some_at k at e) there,
    subst (λ (z : TyShape). Opens (module_shape m).types z z) (sym shape) (is_structure (ty_row (map (ty_shape m.names) v.items)) packed),
  )
  layer_opens item k at (ty.Named id) there shape e =
      let found = s.sound id.0 at e in
      (found.item, found.is_there, subst (λ (z : TyShape). Opens (module_shape m).types z (ty_shape m.names found.item.ty)) (sym shape) found.opens)

  -- what a name opens to by the others in a sound table
  named_opens : (id k at : ℕ) (item : NamedTy) → first_from 0 m.types.items id ≡ Some k → slice_get m.types.items k ≡ Some item
      → type_of_number m.types.items id ≡ Some item.ty → layer_opening openings k (out-Ty item.ty) ≡ Some at → IsOpening m id at
  named_opens id k at item first there stands e =
      let all = types_known m s.known in
      let both = number_known (length m.names) m.types.items id item.ty all stands in
      let opens = layer_opens item k at (out-Ty item.ty) there (layer_shape m.names item.ty) e in
      record {
        item = opens.0;
        is_there = opens.1;
        opens = is_name (text_of m.names id) (ty_shape m.names item.ty) (ty_shape m.names opens.0.ty)
            (number_stands m.names s.distinct m.types.items id item.ty all both.1 stands) opens.2;
      }

  new_opens : (id at : ℕ) → new_opening m.types.items openings id ≡ Some at → IsOpening m id at
  new_opens id at e = by_test (is_some (opening_in openings id)) e
    where
      by_item : (k : ℕ) (o : Option NamedTy) → first_from 0 m.types.items id ≡ Some k → slice_get m.types.items k ≡ o
          → option_and_then (λ (t : NamedTy). layer_opening openings k (out-Ty t.ty)) o ≡ Some at → IsOpening m id at
      by_item k None first there f = cc
      by_item k (Some item) first there f =
          let found = first_found 0 m.types.items id k first in
          let same : found.0 ≡ k = omega (arith, found.2) in
          let also = sym there ∙ subst (λ (n : ℕ). slice_get m.types.items n ≡ Some found.1) same found.3 in
          let alike : item ≡ found.1 = cc in
          named_opens id k at item first there (found.4 ∙ ap (λ (z : NamedTy). Some z.ty) (sym alike)) f

      by_first : (o : Option ℕ) → first_from 0 m.types.items id ≡ o → option_and_then (item_opening m.types.items openings) o ≡ Some at → IsOpening m id at
      by_first None first f = cc
      by_first (Some k) first f = by_item k (slice_get m.types.items k) first refl f

      by_test : (b : Bool) → (if b then None else name_opening m.types.items openings id) ≡ Some at → IsOpening m id at
      by_test true f = cc
      by_test false f = by_first (first_from 0 m.types.items id) refl f

  entered_with : (id : ℕ) → id < length openings → (o : Option ℕ) → new_opening m.types.items openings id ≡ o
      → AreSoundOpenings m (with_opening openings id o)
  entered_with id within None e = s
  entered_with id within (Some at) e = record {
    known = s.known;
    distinct = s.distinct;
    long = length-set openings id (Some at) ∙ s.long;
    sound = λ k j has.
        elim (eqb_tells id k) [
          | inl h ↦
              let written = subst (λ (n : ℕ). slice_get (set openings id (Some at)) n ≡ Some (Some at)) h.1 (get_set_same openings id (Some at) within) in
              let one : at ≡ j = some_at at j (sym (ap (λ (o : Option (Option ℕ)). unwrap_or o None) written) ∙ has) in
              subst (λ (n : ℕ). IsOpening m k n) one (subst (λ (n : ℕ). IsOpening m n at) h.1 (new_opens id at e))
          | inr h ↦
              s.sound k j (sym (ap (λ (o : Option (Option ℕ)). unwrap_or o None) (get_set_other openings id k (Some at) h.1)) ∙ has)
        ];
  }

  -- a sound table stays sound
  pub entered_sound : (id : ℕ) → id < length openings → AreSoundOpenings m (with_opening openings id (new_opening m.types.items openings id))
  entered_sound id within = entered_with id within (new_opening m.types.items openings id) refl

  -- a name that has nothing, though what it stands for opens, would get it
  named_has : (id k at : ℕ) → first_from 0 m.types.items id ≡ Some k → item_opening m.types.items openings k ≡ Some at
      → new_opening m.types.items openings id ≡ None → (found : ℕ) × (opening_in openings id ≡ Some found)
  named_has id k at first gives stuck = has_at (opening_in openings id) refl
    where
      has_at : (o : Option ℕ) → opening_in openings id ≡ o → (found : ℕ) × (opening_in openings id ≡ Some found)
      has_at (Some found) here = (found, here)
      has_at None here =
          let name : name_opening m.types.items openings id ≡ Some at = ap (option_and_then (item_opening m.types.items openings)) first ∙ gives in
          let new = ap (λ (o : Option ℕ). if is_some o then None else name_opening m.types.items openings id) here in
          let wrong : ◌≡◌ {A = Option ℕ} None (Some at) = sym stuck ∙ new ∙ name in
          cc

  -- where nothing more can be entered, a number has something whose type has something
  number_found : AreStuck m.types.items openings (length openings) → (id : ℕ) (t : Ty) → id < length openings → type_of_number m.types.items id ≡ Some t
      → ((k : ℕ) → (at : ℕ) × (layer_opening openings k (out-Ty t) ≡ Some at)) → (found : ℕ) × (opening_in openings id ≡ Some found)
  number_found stuck id t within stands layer =
      let first = first_item m.types.items id t stands in
      let item = first.1 in
      let found = layer first.0 in
      named_has id first.0 found.0 item.1
      (ap (option_and_then (λ (x : NamedTy). layer_opening openings first.0 (out-Ty x.ty))) item.2
      ∙ ap (λ (x : Ty). layer_opening openings first.0 (out-Ty x)) item.3 ∙ found.1)
      (stuck id within)

  -- and so has the layer of each type that opens
  layer_found : AreStuck m.types.items openings (length openings) → (t u : TyShape) → Opens (module_shape m).types t u → (a : Ty)
      → ty_shape m.names a ≡ t → ty_known (length m.names) a ≡ true → (k : ℕ) → (at : ℕ) × (layer_opening openings k (out-Ty a) ≡ Some at)
  layer_found stuck t u (is_array count element) a shape known k =
      (k, array_layer m.names openings k (out-Ty a) count element (sym (layer_shape m.names a) ∙ shape))
  layer_found stuck t u (is_structure row packed) a shape known k =
      (k, structure_layer m.names openings k (out-Ty a) row packed (sym (layer_shape m.names a) ∙ shape))
  layer_found stuck t u (is_name name v w stands opens) a shape known k =
      let layer = name_layer m.names openings k (out-Ty a) name (sym (layer_known (length m.names) a) ∙ known) (sym (layer_shape m.names a) ∙ shape) in
      let number = stands_number m.names m.types.items name v stands in
      let both = number_known (length m.names) m.types.items number.0 number.1 (types_known m s.known) number.3 in
      let has = number_found stuck number.0 number.1 (omega (arith, both.1, s.long)) number.3 (λ j. layer_found stuck v w opens number.1 number.4 both.0 j) in
      let same = one_text m.names s.distinct number.0 layer.0 both.1 layer.2 (number.2 ∙ sym layer.1) in
      (has.0, layer.3 ∙ subst (λ (n : ℕ). opening_in openings n ≡ Some has.0) same has.1)

  -- and the table has all
  pub whole_if_stuck : AreStuck m.types.items openings (length openings) → AreOpenings m openings
  whole_if_stuck stuck = record {
    are_sound = s;
    whole = λ id u within opens.
        let stands = name_opens (module_shape m).types (text_of m.names id) u opens in
        let number = stands_number m.names m.types.items (text_of m.names id) stands.0 stands.1 in
        let both = number_known (length m.names) m.types.items number.0 number.1 (types_known m s.known) number.3 in
        let has = number_found stuck number.0 number.1 (omega (arith, both.1, s.long)) number.3 (λ j. layer_found stuck stands.0 u stands.2 number.1 number.4 both.0 j) in
        let same = one_text m.names s.distinct number.0 id both.1 within number.2 in
        subst (λ (n : ℕ). is_some (opening_in openings n) ≡ true) same (is_there (opening_in openings number.0) has.0 has.1);
  }
    where
      is_there : (o : Option ℕ) (at : ℕ) → o ≡ Some at → is_some o ≡ true
      is_there None at e = cc
      is_there (Some k) at e = refl

-- the table without anything is sound
pub empty_sound : (m : Module) → module_known m ≡ true → IsDistinct bytes_eq m.names → AreSoundOpenings m (replicate (length m.names) None)
empty_sound m known distinct = record {
  known = known;
  distinct = distinct;
  long = length-replicate (length m.names) None;
  sound = λ id at has. absurd (none_there (length m.names) id at (in_table (replicate (length m.names) None) id at has));
}
  where
    none_there : (n id at : ℕ) → slice_get (replicate n None) id ≡ Some (Some at) → ⊥
    none_there n id at has =
        let few = slice_get_within (replicate n None) id (Some at) has in
        let wrong : ◌≡◌ {A = Option (Option ℕ)} (Some None) (Some (Some at)) =
        sym (get_replicate n id None (omega (arith, few, length-replicate {A = Option ℕ} n None))) ∙ has in
        cc

-- a name that got something is one less without
none_at : (openings : List (Option ℕ)) (id : ℕ) → id < length openings → is_some (opening_in openings id) ≡ false → slice_get openings id ≡ Some None
none_at [] id within e = absurd (omega arith)
none_at (None ∷ openings) zero within e = refl
none_at (Some at ∷ openings) zero within e = cc
none_at (o ∷ openings) (suc id) within e = none_at openings id (omega arith) e

new_is_new : (ts : List NamedTy) (openings : List (Option ℕ)) (id at : ℕ) → new_opening ts openings id ≡ Some at → is_some (opening_in openings id) ≡ false
new_is_new ts openings id at e = by_test (is_some (opening_in openings id)) refl e
  where
    by_test : (b : Bool) → is_some (opening_in openings id) ≡ b → (if b then None else name_opening ts openings id) ≡ Some at
        → is_some (opening_in openings id) ≡ false
    by_test true is f = cc
    by_test false is f = is

pub entered_fewer : (ts : List NamedTy) (openings : List (Option ℕ)) (id at : ℕ) → id < length openings → new_opening ts openings id ≡ Some at
    → count_empty (with_opening openings id (Some at)) + 1 ≡ count_empty openings
entered_fewer ts openings id at within e =
    count_set is_none openings id None (Some at) (none_at openings id within (new_is_new ts openings id at e)) refl refl
