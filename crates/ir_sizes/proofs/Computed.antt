-- The layouts that are computed where named types nest so deep at most are those that the rules give there.
use Rattle.std.proofs.Common.{◌≡◌, ℕ, zero, suc, ◌+◌, ◌-◌, ◌<◌, true, List, [], ◌∷◌, length, map, Option, Some, None, slice_get, refl, sym, ◌∙◌, ap, subst, zero-add, arith}
use Rattle.std.specs.Prelude.{unwrap_or, ◌↔◌}
use Rattle.std.specs.Option.{option_and_then}
use Rattle.std.specs.List.{list_all, IsDistinct}
use Rattle.std.specs.Str.{bytes_eq}
use Rattle.std.proofs.lemmas.Option.{slice_get_within}
use Rattle.ir_tree.specs.Shape.{TyShape, ty_row}
use Rattle.ir_tree.specs.ShapeOf.{ty_shape, module_shape}
use Rattle.ir_tree.specs.Known.{ty_known, named_ty_known, module_known}
use Rattle.ir_tree.specs.declared.types.Ty.{Ty}
use Rattle.ir_tree.specs.declared.module.NamedTy.{NamedTy}
use Rattle.ir_tree.specs.declared.module.Module.{Module}
use Rattle.ir_tree.proofs.Grows.{and_left, and_right}
use Rattle.ir_layout.specs.declared.sizes.Layout.{Layout}
use Rattle.ir_layout.specs.Rules.{LaidBy, AreLaidBy, named_ty, NameHasWithin, HasLayout}
use Rattle.ir_layout.specs.Computed.{named_at, ty_layout}
use Rattle.ir_layout.specs.Tables.{InTable, type_of_number}
use Rattle.ir_layout.proofs.Relations.{SaysMore, laid_more}
use Rattle.ir_layout.proofs.Laid.{Fits, some_found, computed_right}
use Rattle.ir_layout.proofs.Entries.{types_known, number_known, number_stands, stands_number}
use Rattle.ir_sizes.specs.Nested.{given_from, layouts_within}
use Rattle.ir_sizes.proofs.Depth.{no_deeper, as_many_types}

-- what is given for a number
given_at : (f : ℕ → Option Layout) (at count id : ℕ) → id < count → named_at (given_from f at count) id ≡ f (at + id)
given_at f at zero id within = absurd (omega arith)
given_at f at (suc count) zero within = let here : at ≡ at + 0 = omega arith in ap f here
given_at f at (suc count) (suc id) within =
    let next : at + 1 + id ≡ at + suc id = omega arith in
    given_at f (at + 1) count id (omega arith) ∙ ap f next

none_given : (f : ℕ → Option Layout) (at count id : ℕ) → f (at + id) ≡ None → named_at (given_from f at count) id ≡ None
none_given f at zero id none = refl
none_given f at (suc count) zero none = let here : at ≡ at + 0 = omega arith in ap f here ∙ none
none_given f at (suc count) (suc id) none =
    let next : at + 1 + id ≡ at + suc id = omega arith in
    none_given f (at + 1) count id (ap f next ∙ none)

-- and where the numbers begin at 0
given_first : (f : ℕ → Option Layout) (count id : ℕ) → id < count → named_at (given_from f 0 count) id ≡ f id
given_first f count id within = given_at f 0 count id within ∙ ap f (zero-add id)

none_first : (f : ℕ → Option Layout) (count id : ℕ) → f id ≡ None → named_at (given_from f 0 count) id ≡ None
none_first f count id none = none_given f 0 count id (ap f (zero-add id) ∙ none)

given_long : (f : ℕ → Option Layout) (at count : ℕ) → length (given_from f at count) ≡ count
given_long f at zero = refl
given_long f at (suc count) = ap suc (given_long f (at + 1) count)

layouts_long : (ts : List NamedTy) (count depth : ℕ) → length (layouts_within ts count depth) ≡ count
layouts_long ts count zero = given_long (λ id. None) 0 count
layouts_long ts count (suc depth) = given_long (λ id. option_and_then (ty_layout (layouts_within ts count depth)) (type_of_number ts id)) 0 count

-- a name has no layout where no named type may nest
pub none_at_once : (ts : List NamedTy) (count id : ℕ) → named_at (layouts_within ts count 0) id ≡ None
none_at_once ts count id = none_first (λ i. None) count id refl

next_at : (ts : List NamedTy) (count depth id : ℕ) → id < count
    → named_at (layouts_within ts count (suc depth)) id ≡ option_and_then (ty_layout (layouts_within ts count depth)) (type_of_number ts id)
next_at ts count depth id within =
    given_first (λ i. option_and_then (ty_layout (layouts_within ts count depth)) (type_of_number ts i)) count id within

-- a name has the layout of the type that it stands for, in which named types nest one less deep
pub layout_of_name : (ts : List NamedTy) (count : ℕ) → list_all (named_ty_known count) ts ≡ true → (depth id : ℕ) (t : Ty) → (depth ≡ 0 → ⊥)
    → type_of_number ts id ≡ Some t → named_at (layouts_within ts count depth) id ≡ ty_layout (layouts_within ts count (depth - 1)) t
layout_of_name ts count known zero id t h stands = absurd (h refl)
layout_of_name ts count known (suc depth) id t h stands =
    let less : suc depth - 1 ≡ depth = omega arith in
    let within = (number_known count ts id t known stands).1 in
    rw less (next_at ts count depth id within ∙ ap (option_and_then (ty_layout (layouts_within ts count depth))) stands)

-- and none where it stands for none
pub no_layout_of_name : (ts : List NamedTy) (count depth id : ℕ) → (depth ≡ 0 → ⊥) → type_of_number ts id ≡ None
    → named_at (layouts_within ts count depth) id ≡ None
no_layout_of_name ts count zero id h stands = absurd (h refl)
no_layout_of_name ts count (suc depth) id h stands =
    none_first (λ i. option_and_then (ty_layout (layouts_within ts count depth)) (type_of_number ts i)) count id
    (ap (option_and_then (ty_layout (layouts_within ts count depth))) stands)

then_some : (f : Ty → Option Layout) (o : Option Ty) (l : Layout) → option_and_then f o ≡ Some l → (t : Ty) × (o ≡ Some t) × (f t ≡ Some l)
then_some f None l e = cc
then_some f (Some t) l e = (t, refl, e)

module _ (m : Module) (known : module_known m ≡ true) (distinct : IsDistinct bytes_eq m.names) where
  -- the computed layouts of the module's names
  abbrev pub layouts : ℕ → List (Option Layout)
  layouts depth = layouts_within m.types.items (length m.names) depth

  fits : (depth : ℕ) → Fits m.names (layouts depth)
  fits depth = record { distinct = distinct; long = layouts_long m.types.items (length m.names) depth }

  -- they say what the rules say
  tables_say : (depth : ℕ) → SaysMore (InTable m.names (layouts depth)) (NameHasWithin depth (module_shape m).types)
  unfolding NameHasWithin
  tables_say zero name l (id, text, has) =
      let wrong : ◌≡◌ {A = Option Layout} (Some l) None =
      sym (ap (λ (o : Option (Option Layout)). unwrap_or o None) has) ∙ none_at_once m.types.items (length m.names) id in
      cc
  tables_say (suc depth) name l (id, text, has) =
      let within : id < length m.names =
      omega (arith, slice_get_within (layouts (suc depth)) id (Some l) has, layouts_long m.types.items (length m.names) (suc depth)) in
      let given = sym (next_at m.types.items (length m.names) depth id within) ∙ ap (λ (o : Option (Option Layout)). unwrap_or o None) has in
      let parts = then_some (ty_layout (layouts depth)) (type_of_number m.types.items id) l given in
      let all = types_known m known in
      let names = (number_known (length m.names) m.types.items id parts.0 all parts.1).0 in
      let stands = number_stands m.names distinct m.types.items id parts.0 all within parts.1 in
      let laid = (computed_right m.names (layouts depth) (fits depth) parts.0 names l).0 parts.2 in (
        ty_shape m.names parts.0,
        subst (λ (z : List ℕ). named_ty (module_shape m).types z ≡ Some (ty_shape m.names parts.0)) text stands,
        laid_more (InTable m.names (layouts depth)) (NameHasWithin depth (module_shape m).types) (tables_say depth) (ty_shape m.names parts.0) l laid,
      )

  -- and all of it
  rules_say : (depth : ℕ) → SaysMore (NameHasWithin depth (module_shape m).types) (InTable m.names (layouts depth))
  unfolding NameHasWithin
  rules_say zero name l none = absurd none
  rules_say (suc depth) name l (u, stands, has) =
      let number = stands_number m.names m.types.items name u stands in
      let both = number_known (length m.names) m.types.items number.0 number.1 (types_known m known) number.3 in
      let here = subst (λ (z : TyShape). LaidBy (NameHasWithin depth (module_shape m).types) z l) (sym number.4) has in
      let laid = laid_more (NameHasWithin depth (module_shape m).types) (InTable m.names (layouts depth)) (rules_say depth) (ty_shape m.names number.1) l here in
      let found = (computed_right m.names (layouts depth) (fits depth) number.1 both.0 l).1 laid in
      let given = next_at m.types.items (length m.names) depth number.0 both.1
      ∙ ap (option_and_then (ty_layout (layouts depth))) number.3 ∙ found in
      (number.0, number.2, some_found (slice_get (layouts (suc depth)) number.0) l given)

  -- a type has the computed layout
  pub computed_within : (depth : ℕ) (t : Ty) → ty_known (length m.names) t ≡ true → (l : Layout)
      → (ty_layout (layouts depth) t ≡ Some l) ↔ LaidBy (NameHasWithin depth (module_shape m).types) (ty_shape m.names t) l
  computed_within depth t names l = (
    λ e. laid_more (InTable m.names (layouts depth)) (NameHasWithin depth (module_shape m).types) (tables_say depth) (ty_shape m.names t) l
        ((computed_right m.names (layouts depth) (fits depth) t names l).0 e),
    λ has. (computed_right m.names (layouts depth) (fits depth) t names l).1
        (laid_more (NameHasWithin depth (module_shape m).types) (InTable m.names (layouts depth)) (rules_say depth) (ty_shape m.names t) l has),
  )

  -- a type that has a layout has the computed one where names nest as deep as there are named types
  pub sized_within : (depth : ℕ) (t : Ty) → depth ≡ length m.types.items → ty_known (length m.names) t ≡ true → (l : Layout)
      → HasLayout (module_shape m).types (ty_shape m.names t) l → ty_layout (layouts depth) t ≡ Some l
  sized_within depth t deep names l has =
      (computed_within depth t names l).1
      (subst (λ (d : ℕ). LaidBy (NameHasWithin d (module_shape m).types) (ty_shape m.names t) l) (sym (as_many_types m depth deep))
      (no_deeper (module_shape m).types (ty_shape m.names t) l has))

  -- the types of a row have their computed layouts
  pub row_within : (depth : ℕ) (ts : List Ty) → list_all (ty_known (length m.names)) ts ≡ true → (ls : List Layout)
      → AreLaidBy (NameHasWithin depth (module_shape m).types) (ty_row (map (ty_shape m.names) ts)) ls → map (ty_layout (layouts depth)) ts ≡ map (λ f. Some f) ls
  unfolding LaidBy AreLaidBy
  row_within depth [] names [] have = refl
  row_within depth [] names (l ∷ ls) none = absurd none
  row_within depth (t ∷ ts) names [] none = absurd none
  row_within depth (t ∷ ts) names (l ∷ ls) (has, have) =
      let head = (computed_within depth t (and_left _ _ names) l).1 has in
      ap (λ (o : Option Layout). o ∷ map (ty_layout (layouts depth)) ts) head
      ∙ ap (λ (os : List (Option Layout)). Some l ∷ os) (row_within depth ts (and_right _ _ names) ls have)
