-- What a look at all places says of a module, and what no fault of names says of it.
use Rattle.std.proofs.Common.{◌≡◌, ℕ, ◌≤◌, ◌⊎◌, inl, inr, Option, Some, None, sym, ◌∙◌, refl, arith}
use Rattle.std.specs.Prelude.{IfNone}
use Rattle.std.proofs.lemmas.Option.{same_Some}
use Rattle.ir_tree.specs.ShapeOf.{module_shape, named_ty_shape, global_shape, declare_shape, function_shape}
use Rattle.ir_tree.specs.declared.parsed.Parsed.{Parsed}
use Rattle.ir_rules.specs.Places.{Place, type_at, global_at, declare_at, function_at, inst_at_place, spot_of}
use Rattle.ir_rules.specs.TypeRules.{HasProperTypes, HasTypes}
use Rattle.ir_rules.specs.Faults.{TypeFault, IsFirst}
use Rattle.ir_types.specs.Looks.{IsTypePlace, IsGlobalPlace, IsDeclarePlace, IsHeadPlace, IsInstPlace, HasLooked, IsFoundBy}
use Rattle.ir_repeats.specs.Least.{first_of}
use Rattle.ir_types.proofs.Looking.{looked_both}
use Rattle.ir_types.proofs.Spotted.{item_spotted, inst_spotted}

-- what stands nowhere in the text isn't there
spot_or_none : (o : Option ℕ) → ((at : ℕ) × (o ≡ Some at)) ⊎ (o ≡ None)
spot_or_none None = inr refl
spot_or_none (Some at) = inl (at, refl)

nowhere_proper : (p : Parsed) (place : Place) → spot_of p.spots place ≡ None → HasProperTypes (module_shape p.«module») place
nowhere_proper p (type_at k) none = λ t e.
    let spot = item_spotted (named_ty_shape p.«module».names) p.«module».types.items p.spots.types.items p.types_spotted k t e in
    let no : ◌≡◌ {A = Option ℕ} (Some spot.0) None = sym spot.1 ∙ none in
    cc
nowhere_proper p (global_at k) none = λ g e.
    let spot = item_spotted (global_shape p.«module».names) p.«module».globals.items p.spots.globals.items p.globals_spotted k g e in
    let no : ◌≡◌ {A = Option ℕ} (Some spot.0) None = sym spot.1 ∙ none in
    cc
nowhere_proper p (declare_at k) none = λ d e.
    let spot = item_spotted (declare_shape p.«module».names) p.«module».declares.items p.spots.declares.items p.declares_spotted k d e in
    let no : ◌≡◌ {A = Option ℕ} (Some spot.0) None = sym spot.1 ∙ none in
    cc
nowhere_proper p (function_at k) none = λ f e.
    let spot = item_spotted (function_shape p.«module».names) p.«module».functions.items p.spots.functions.items p.functions_spotted k f e in
    let no : ◌≡◌ {A = Option ℕ} (Some spot.0) None = sym spot.1 ∙ none in
    cc
nowhere_proper p (inst_at_place k b i) none = λ f x e h.
    let spot = inst_spotted p k b i f x e h in
    let no : ◌≡◌ {A = Option ℕ} (Some spot.0) None = sym spot.1 ∙ none in
    cc

-- ---- all places
abbrev pub Anywhere : Place → Type 0
Anywhere place = Unit {0}

abbrev Data : Place → Type 0
Data place = IsTypePlace place ⊎ IsGlobalPlace place

abbrev Heads : Place → Type 0
Heads place = IsDeclarePlace place ⊎ IsHeadPlace place

of_a_kind : (place : Place) → (Data place ⊎ Heads place) ⊎ IsInstPlace place
of_a_kind (type_at k) = inl (inl (inl (k, refl)))
of_a_kind (global_at k) = inl (inl (inr (k, refl)))
of_a_kind (declare_at k) = inl (inr (inl (k, refl)))
of_a_kind (function_at k) = inl (inr (inr (k, refl)))
of_a_kind (inst_at_place k b i) = inr (k, (b, (i, refl)))

-- what was found of each kind of places, and of all
pub looked_anywhere : (p : Parsed) (types globals declares heads insts contents functions items all : Option ℕ) → contents ≡ first_of types globals
    → functions ≡ first_of declares heads → items ≡ first_of contents functions → all ≡ first_of items insts → HasLooked p IsTypePlace types
    → HasLooked p IsGlobalPlace globals → HasLooked p IsDeclarePlace declares → HasLooked p IsHeadPlace heads → HasLooked p IsInstPlace insts
    → HasLooked p Anywhere all
looked_anywhere p types globals declares heads insts contents functions items all contents_is functions_is items_is all_is of_types of_globals of_declares of_heads of_insts =
    rw all_is (looked_both p (λ q. Data q ⊎ Heads q) IsInstPlace Anywhere items insts (λ q at h e. of_a_kind q)
    (rw items_is (looked_both p Data Heads (λ q. Data q ⊎ Heads q) contents functions (λ q at h e. h)
    (rw contents_is (looked_both p IsTypePlace IsGlobalPlace Data types globals (λ q at h e. h) of_types of_globals))
    (rw functions_is (looked_both p IsDeclarePlace IsHeadPlace Heads declares heads (λ q at h e. h) of_declares of_heads))))
    of_insts)

no_fault : (p : Parsed) (found : Option ℕ) → HasLooked p Anywhere found → (other : ℕ) → TypeFault p other → IsFoundBy found other
no_fault p found looked other fault =
    elim (looked.all fault.0 other tt fault.1) [
      | inl proper ↦ absurd (fault.2 proper)
      | inr by ↦ by
    ]

pub first_fault : (p : Parsed) (found : Option ℕ) → HasLooked p Anywhere found → IsFirst (TypeFault p) found
first_fault p None looked = λ at fault.
    let by = no_fault p None looked at fault in
    let no : ◌≡◌ {A = Option ℕ} None (Some by.0) = by.1 in
    cc
first_fault p (Some at) looked = (
  looked.fault at refl,
  λ other fault.
      let by = no_fault p (Some at) looked other fault in
      let is : at ≡ by.0 = same_Some at by.0 by.1 in
      let low : by.0 ≤ other = by.2 in
      omega arith,
)

pub none_proper : (p : Parsed) (found : Option ℕ) → HasLooked p Anywhere found → IfNone found (HasTypes (module_shape p.«module»))
none_proper p (Some at) looked = tt
none_proper p None looked = λ place.
    elim (spot_or_none (spot_of p.spots place)) [
      | inr none ↦ nowhere_proper p place none
      | inl spot ↦ elim (looked.all place spot.0 tt spot.1) [
        | inl proper ↦ proper
        | inr by ↦ let no : ◌≡◌ {A = Option ℕ} None (Some by.0) = by.1 in absurd cc
      ]
    ]
