-- Names are proper where no rule of names fails at any offset.
use Rattle.std.proofs.Common.{◌≡◌, ℕ, ◌⊎◌, inl, inr, max, Bool, true, false, List, Option, Some, None, refl, sym, ◌∙◌, ap, subst, slice_get, option_map}
use Rattle.std.specs.Prelude.{IfNone}
use Rattle.ir_tree.specs.Known.{module_known}
use Rattle.ir_tree.specs.Shape.{NamedTyShape, GlobalShape, DeclareShape, FunctionShape}
use Rattle.ir_tree.specs.ShapeOf.{module_shape, named_ty_shape, global_shape, declare_shape, function_shape}
use Rattle.ir_tree.specs.declared.parsed.Parsed.{Parsed}
use Rattle.ir_rules.specs.Places.{Place, type_at, global_at, declare_at, function_at, inst_at_place, spot_of}
use Rattle.ir_rules.specs.NameRules.{AreThere, IsRepeated, Clash, two_types, two_symbols, type_name_at, symbol_at, given_names, HasNames}
use Rattle.ir_rules.specs.Faults.{NameFault, MissingFault, RepeatFault, ClashFault, IsFirst}
use Rattle.ir_repeats.specs.Least.{first_of}
use Rattle.ir_repeats.proofs.GivenFirsts.{first_either}
use Rattle.ir_repeats.proofs.GivenPlaces.{Fits, fits_at, right_at}
use Rattle.ir_types.proofs.Spotted.{mapped_of, item_spotted, inst_spotted, function_spots}

-- ---- an item that has a name stands in the text
named_of : {X : Type 0} (name : X → List ℕ) (o : Option X) (n : List ℕ) → option_map name o ≡ Some n → (x : X) × (o ≡ Some x)
named_of name None n e = cc
named_of name (Some x) n e = (x, refl)

abbrev Spot : Parsed → Place → Type 0
Spot p place = (at : ℕ) × (spot_of p.spots place ≡ Some at)

type_spotted : (p : Parsed) (x : Place) (name : List ℕ) → type_name_at (module_shape p.«module») x ≡ Some name → Spot p x
type_spotted p (type_at k) name e =
    let t = named_of (λ (t : NamedTyShape). t.name) (slice_get (module_shape p.«module»).types k) name e in
    item_spotted (named_ty_shape p.«module».names) p.«module».types.items p.spots.types.items p.types_spotted k t.0 t.1
type_spotted p (global_at k) name e = cc
type_spotted p (declare_at k) name e = cc
type_spotted p (function_at k) name e = cc
type_spotted p (inst_at_place k b i) name e = cc

symbol_spotted : (p : Parsed) (x : Place) (name : List ℕ) → symbol_at (module_shape p.«module») x ≡ Some name → Spot p x
symbol_spotted p (type_at k) name e = cc
symbol_spotted p (global_at k) name e =
    let g = named_of (λ (g : GlobalShape). g.name) (slice_get (module_shape p.«module»).globals k) name e in
    item_spotted (global_shape p.«module».names) p.«module».globals.items p.spots.globals.items p.globals_spotted k g.0 g.1
symbol_spotted p (declare_at k) name e =
    let d = named_of (λ (d : DeclareShape). d.name) (slice_get (module_shape p.«module»).declares k) name e in
    item_spotted (declare_shape p.«module».names) p.«module».declares.items p.spots.declares.items p.declares_spotted k d.0 d.1
symbol_spotted p (function_at k) name e =
    let f = named_of (λ (f : FunctionShape). f.name) (slice_get (module_shape p.«module»).functions k) name e in
    item_spotted (function_shape p.«module».names) p.«module».functions.items p.spots.functions.items p.functions_spotted k f.0 f.1
symbol_spotted p (inst_at_place k b i) name e = cc

clash_spotted : (p : Parsed) (x y : Place) → Clash (module_shape p.«module») x y → Spot p x × Spot p y
clash_spotted p x y (two_types name apart one other) = (type_spotted p x name one, type_spotted p y name other)
clash_spotted p x y (two_symbols name apart one other twins) = (symbol_spotted p x name one, symbol_spotted p y name other)

-- where a name is given a second time stands in the text
repeated_spotted : (p : Parsed) → module_known p.«module» ≡ true → (place : Place) → IsRepeated (module_shape p.«module») place → Spot p place
repeated_spotted p known place r =
    let names = p.«module».names in
    let functions = p.«module».functions.items in
    let f = mapped_of (function_shape names) functions r.number r.function r.there in
    let spot = item_spotted (function_shape names) functions p.spots.functions.items p.functions_spotted r.number r.function r.there in
    let spots = function_spots p r.number f.0 f.1 in
    let fits = fits_at p known r.number f.0 spot.0 spots.rows (record { there = f.1; at_spot = spot.1; at_spots = spots.has_rows; long = spots.long }) in
    let other = right_at (Fits names p.spots) _ _ fits r.second r.other
    (subst (λ (g : FunctionShape). slice_get (given_names r.number g) r.second ≡ Some r.other) (sym f.2) r.is_second) in
    (other.0.spot, ap (spot_of p.spots) (sym r.at) ∙ other.2.spotted)

-- ---- what is used at a place is there, where no name is missing
true_unless : (b : Bool) → (b ≡ false → ⊥) → b ≡ true
true_unless true wrong = refl
true_unless false wrong = absurd (wrong refl)

all_there : (p : Parsed) → IsFirst (MissingFault p) None → (place : Place) → AreThere (module_shape p.«module») place
all_there p none (type_at k) = λ t e.
    let spot = item_spotted (named_ty_shape p.«module».names) p.«module».types.items p.spots.types.items p.types_spotted k t e in
    true_unless _ (λ missing. none spot.0 (type_at k, spot.1, λ there. let wrong = there t e in cc))
all_there p none (global_at k) = λ g e.
    let spot = item_spotted (global_shape p.«module».names) p.«module».globals.items p.spots.globals.items p.globals_spotted k g e in
    true_unless _ (λ missing. none spot.0 (global_at k, spot.1, λ there. let wrong = there g e in cc))
all_there p none (declare_at k) = λ d e.
    let spot = item_spotted (declare_shape p.«module».names) p.«module».declares.items p.spots.declares.items p.declares_spotted k d e in
    true_unless _ (λ missing. none spot.0 (declare_at k, spot.1, λ there. let wrong = there d e in cc))
all_there p none (function_at k) = λ f e.
    let spot = item_spotted (function_shape p.«module».names) p.«module».functions.items p.spots.functions.items p.functions_spotted k f e in
    true_unless _ (λ missing. none spot.0 (function_at k, spot.1, λ there. let wrong = there f e in cc))
all_there p none (inst_at_place k b i) = λ f x e h.
    let spot = inst_spotted p k b i f x e h in
    true_unless _ (λ missing. none spot.0 (inst_at_place k b i, spot.1, λ there. let wrong = there f x e h in cc))

-- names are proper where no rule fails
pub names_proper : (p : Parsed) → module_known p.«module» ≡ true → (found : Option ℕ) → IsFirst (NameFault p) found
    → IfNone found (HasNames (module_shape p.«module»))
names_proper p known (Some at) first = tt
names_proper p known None none = record {
  there = all_there p (λ at missing. none at (inl missing));
  once = λ place repeat.
      let spot = repeated_spotted p known place repeat in
      none spot.0 (inr (inl (place, spot.1, repeat)));
  apart = λ x y clash.
      let spots = clash_spotted p x y clash in
      none (max spots.0.0 spots.1.0) (inr (inr (record {
        one = x;
        other = y;
        one_spot = spots.0.0;
        other_spot = spots.1.0;
        one_at = spots.0.1;
        other_at = spots.1.1;
        clash = clash;
        later = refl;
      })));
}

-- the first fault of three kinds
pub first_of_names : (p : Parsed) (missing repeat clash both all : Option ℕ) → both ≡ first_of repeat clash → all ≡ first_of missing both
    → IsFirst (MissingFault p) missing → IsFirst (RepeatFault p) repeat → IsFirst (ClashFault p) clash → IsFirst (NameFault p) all
first_of_names p missing repeat clash both all both_is all_is is_missing is_repeat is_clash =
    let twice = first_either (RepeatFault p) (ClashFault p) (λ at. RepeatFault p at ⊎ ClashFault p at) (λ at f. inl f) (λ at f. inr f) (λ at f. f) repeat clash
    is_repeat is_clash in
    subst (λ (o : Option ℕ). IsFirst (NameFault p) o) (sym all_is)
    (first_either (MissingFault p) (λ at. RepeatFault p at ⊎ ClashFault p at) (NameFault p) (λ at f. inl f) (λ at f. inr f) (λ at f. f) missing both is_missing
    (subst (λ (o : Option ℕ). IsFirst (λ at. RepeatFault p at ⊎ ClashFault p at) o) (sym both_is) twice))
