-- The names that a function gives, at their places, and by their numbers with their offsets.
use Rattle.std.proofs.Common.{◌≡◌, ℕ, zero, suc, ◌+◌, ◌<◌, inl, inr, Bool, true, List, [], ◌∷◌, ◌++◌, length, map, Option, Some, None, Vec, refl, sym, ◌∙◌, ap, subst, arith, slice_get, get_or, ltb-true, option_map, option_and_then}
use Rattle.std.specs.List.{list_all, AllZip, IsDistinct}
use Rattle.std.specs.Str.{bytes_eq}
use Rattle.std.specs.declared.alloc.Global.{Global}
use Rattle.std.proofs.lemmas.Bool.{cases_lt}
use Rattle.std.proofs.lemmas.Option.{slice_get_within, slice_get_read, slice_get-map, same_Some}
use Rattle.std.proofs.lemmas.List.{length-map}
use Rattle.ir_tree.specs.NameTable.{text_of}
use Rattle.ir_tree.specs.Shape.{FunctionShape}
use Rattle.ir_tree.specs.ShapeOf.{name_shape, inst_shape, block_shape, param_shape, function_shape, module_shape}
use Rattle.ir_tree.specs.Known.{result_known, inst_known, block_known, param_known, function_known, module_known}
use Rattle.ir_tree.specs.declared.names.NameId.{NameId}
use Rattle.ir_tree.specs.declared.module.Inst.{Inst}
use Rattle.ir_tree.specs.declared.module.Block.{Block}
use Rattle.ir_tree.specs.declared.module.Param.{Param}
use Rattle.ir_tree.specs.declared.module.Function.{Function}
use Rattle.ir_tree.specs.declared.parsed.Spots.{Spots}
use Rattle.ir_tree.specs.declared.parsed.Parsed.{Parsed}
use Rattle.ir_tree.proofs.Grows.{and_left, and_right}
use Rattle.ir_same.proofs.Numbers.{one_text}
use Rattle.ir_rules.specs.Places.{Place, function_at, inst_at_place, spot_of}
use Rattle.ir_rules.specs.NameRules.{GivenName, given, given_by_params, given_by_insts, given_by_blocks, given_names, IsRepeated}
use Rattle.ir_rules.specs.Faults.{IsFirst, RepeatFault}
use Rattle.ir_repeats.specs.Least.{first_of}
use Rattle.ir_repeats.specs.Given.{GivenId, given_id, ids_of_params, ids_of_insts, ids_of_block, ids_of_blocks, given_ids, IsGivenAgain}
use Rattle.ir_repeats.proofs.GivenFirsts.{first_same, first_either}

-- ---- two lists whose elements are related in order
zip_append : {A B : Type 0} (R : A → B → Type 0) (xs : List A) (ys : List B) (zs : List A) (ws : List B) → AllZip R xs ys → AllZip R zs ws
    → AllZip R (xs ++ zs) (ys ++ ws)
zip_append R [] [] zs ws h k = k
zip_append R [] (y ∷ ys) zs ws h k = absurd h
zip_append R (x ∷ xs) [] zs ws h k = absurd h
zip_append R (x ∷ xs) (y ∷ ys) zs ws h k = (h.0, zip_append R xs ys zs ws h.1 k)

pub right_at : {A B : Type 0} (R : A → B → Type 0) (xs : List A) (ys : List B) → AllZip R xs ys → (j : ℕ) (x : A) → slice_get xs j ≡ Some x
    → (y : B) × (slice_get ys j ≡ Some y) × R x y
right_at R [] ys h j x e = cc
right_at R (z ∷ xs) [] h j x e = absurd h
right_at R (z ∷ xs) (y ∷ ys) h zero x e =
    let same : z ≡ x = same_Some z x e in
    (y, refl, subst (λ (v : _). R v y) same h.0)
right_at R (z ∷ xs) (y ∷ ys) h (suc j) x e = right_at R xs ys h.1 j x e

left_at : {A B : Type 0} (R : A → B → Type 0) (xs : List A) (ys : List B) → AllZip R xs ys → (j : ℕ) (y : B) → slice_get ys j ≡ Some y
    → (x : A) × (slice_get xs j ≡ Some x) × R x y
left_at R xs [] h j y e = cc
left_at R [] (z ∷ ys) h j y e = absurd h
left_at R (x ∷ xs) (z ∷ ys) h zero y e =
    let same : z ≡ y = same_Some z y e in
    (x, refl, subst (λ (v : _). R x v) same h.0)
left_at R (x ∷ xs) (z ∷ ys) h (suc j) y e = left_at R xs ys h.1 j y e

all_at : {X : Type 0} (test : X → Bool) (xs : List X) → list_all test xs ≡ true → (j : ℕ) (x : X) → slice_get xs j ≡ Some x → test x ≡ true
all_at test [] h j x e = cc
all_at test (y ∷ xs) h zero x e = ap test (sym (same_Some y x e)) ∙ and_left _ _ h
all_at test (y ∷ xs) h (suc j) x e = all_at test xs (and_right _ _ h) j x e

-- ---- rows that are mapped to the same
pub mapped_at : {X Y Z : Type 0} (f : X → Z) (g : Y → Z) (xs : List X) (ys : List Y) → map f xs ≡ map g ys → (j : ℕ) (x : X) (y : Y)
    → slice_get xs j ≡ Some x → slice_get ys j ≡ Some y → f x ≡ g y
mapped_at f g [] ys e j x y h k = cc
mapped_at f g (z ∷ xs) [] e j x y h k = cc
mapped_at f g (z ∷ xs) (w ∷ ys) e zero x y h k =
    let same : f z ≡ g w = cc in
    ap f (sym (same_Some z x h)) ∙ same ∙ ap g (same_Some w y k)
mapped_at f g (z ∷ xs) (w ∷ ys) e (suc j) x y h k =
    let rest : map f xs ≡ map g ys = cc in
    mapped_at f g xs ys rest j x y h k

pub as_many : {X Y Z : Type 0} (f : X → Z) (g : Y → Z) (xs : List X) (ys : List Y) → map f xs ≡ map g ys → length xs ≡ length ys
as_many f g xs ys e = sym (length-map xs f) ∙ ap length e ∙ length-map ys g

-- ---- a name at its place, and by its number with its offset
pub record Fits (names : List (List ℕ)) (s : Spots) (g : GivenName) (i : GivenId) : Type 0 where
  pub named : g.name ≡ text_of names i.number
  pub known : i.number < length names
  pub spotted : spot_of s g.place ≡ Some i.spot

module _ (names : List (List ℕ)) (s : Spots) where
  name_fits : (o : Option NameId) (place : Place) (spot : ℕ) → result_known (length names) o ≡ true → spot_of s place ≡ Some spot
      → AllZip (Fits names s) (given (option_map (name_shape names) o) place) (given_id o spot)
  name_fits None place spot known spotted = tt
  name_fits (Some id) place spot known spotted =
      (record { named = refl; known = ltb-true id.0 (length names) known; spotted = spotted }, tt)

  params_fit : (k spot : ℕ) → spot_of s (function_at k) ≡ Some spot → (ps : List Param) → list_all (param_known (length names)) ps ≡ true
      → AllZip (Fits names s) (given_by_params k (map (param_shape names) ps)) (ids_of_params spot ps)
  params_fit k spot spotted [] known = tt
  params_fit k spot spotted (p ∷ ps) known =
      zip_append (Fits names s) _ _ _ _ (name_fits p.name (function_at k) spot (and_right _ _ (and_left _ _ known)) spotted)
      (params_fit k spot spotted ps (and_right _ _ known))

  insts_fit : (k b i : ℕ) (xs : List Inst) (ss : List ℕ) → length ss ≡ length xs → list_all (inst_known (length names)) xs ≡ true
      → ((n j spot : ℕ) → i + j ≡ n → slice_get ss j ≡ Some spot → spot_of s (inst_at_place k b n) ≡ Some spot)
      → AllZip (Fits names s) (given_by_insts k b i (map (inst_shape names) xs)) (ids_of_insts xs ss)
  insts_fit k b i [] ss long known spotted = tt
  insts_fit k b i (x ∷ xs) [] long known spotted = absurd (omega arith)
  insts_fit k b i (x ∷ xs) (t ∷ ss) long known spotted =
      zip_append (Fits names s) _ _ _ _ (name_fits x.result (inst_at_place k b i) t (and_left _ _ (and_left _ _ known)) (spotted i 0 t (omega arith) refl))
      (insts_fit k b (i + 1) xs ss (omega arith) (and_right _ _ known) (λ n j spot e h. spotted n (suc j) spot (omega (arith, e)) h))

  -- the names that a block gives: its label, and those of results
  abbrev given_by_block : ℕ → ℕ → Block → List GivenName
  given_by_block k b x = record { name = name_shape names x.name; place = function_at k } ∷ given_by_insts k b 0 (map (inst_shape names) x.insts.items)

  block_fits : (k spot b : ℕ) → spot_of s (function_at k) ≡ Some spot → (x : Block) (v : Vec ℕ Global) → length v.items ≡ length x.insts.items
      → block_known (length names) x ≡ true
      → option_and_then (λ blocks. slice_get blocks.items b) (slice_get s.insts.items k) ≡ Some v
      → AllZip (Fits names s) (given_by_block k b x) (ids_of_block spot x v.items)
  block_fits k spot b spotted x v long known there = (
    record { named = refl; known = ltb-true x.name.0 (length names) (and_left _ _ known); spotted = spotted },
    insts_fit k b 0 x.insts.items v.items long (and_right _ _ known)
        (λ n j at e h.
        let same : j ≡ n = omega (arith, e) in
        ap (λ (o : Option (Vec ℕ Global)). option_and_then (λ (block : Vec ℕ Global). slice_get block.items n) o) there
        ∙ subst (λ (i : ℕ). slice_get v.items i ≡ Some at) same h),
  )

  blocks_fit : (k spot b : ℕ) → spot_of s (function_at k) ≡ Some spot → (xs : List Block) (ss : List (Vec ℕ Global))
      → map (λ s. length s.items) ss ≡ map (λ x. length x.insts.items) xs → list_all (block_known (length names)) xs ≡ true
      → ((n j : ℕ) (v : Vec ℕ Global) → b + j ≡ n → slice_get ss j ≡ Some v
      → option_and_then (λ blocks. slice_get blocks.items n) (slice_get s.insts.items k) ≡ Some v)
      → AllZip (Fits names s) (given_by_blocks k b (map (block_shape names) xs)) (ids_of_blocks spot xs ss)
  blocks_fit k spot b spotted [] ss long known there = tt
  blocks_fit k spot b spotted (x ∷ xs) [] long known there = cc
  blocks_fit k spot b spotted (x ∷ xs) (v ∷ ss) long known there =
      let one : length v.items ≡ length x.insts.items = cc in
      let rest : map (λ s. length s.items) ss ≡ map (λ x. length x.insts.items) xs = cc in
      zip_append (Fits names s) (given_by_block k b x) (ids_of_block spot x v.items) _ _ (block_fits k spot b spotted x v one (and_left _ _ known) (there b 0 v (omega arith) refl))
      (blocks_fit k spot (b + 1) spotted xs ss rest (and_right _ _ known) (λ n j w e h. there n (suc j) w (omega (arith, e)) h))

  function_fits : (k spot : ℕ) (f : Function) (v : Vec (Vec ℕ Global) Global) → spot_of s (function_at k) ≡ Some spot → slice_get s.insts.items k ≡ Some v
      → map (λ s. length s.items) v.items ≡ map (λ x. length x.insts.items) f.blocks.items → function_known (length names) f ≡ true
      → AllZip (Fits names s) (given_names k (function_shape names f)) (given_ids f spot v.items)
  function_fits k spot f v spotted there long known =
      zip_append (Fits names s) _ _ _ _ (params_fit k spot spotted f.params.items (and_right _ _ (and_left _ _ known)))
      (blocks_fit k spot 0 spotted f.blocks.items v.items long (and_right _ _ known)
      (λ n j w e h.
      let same : j ≡ n = omega (arith, e) in
      ap (λ (o : Option (Vec (Vec ℕ Global) Global)). option_and_then (λ (blocks : Vec (Vec ℕ Global) Global). slice_get blocks.items n) o) there
      ∙ subst (λ (i : ℕ). slice_get v.items i ≡ Some w) same h))

-- ---- faults of functions
-- one of the functions below a number gives a name a second time at an offset
pub record IsRepeatedBelow (p : Parsed) (number at : ℕ) : Type 0 where
  pub place : Place
  pub spotted : spot_of p.spots place ≡ Some at
  pub repeated : IsRepeated (module_shape p.«module») place
  pub below : repeated.number < number

-- a function of a module that was read, with its number and its offsets
pub record IsFunctionAt (p : Parsed) (k : ℕ) (f : Function) (spot : ℕ) (spots : Vec (Vec ℕ Global) Global) : Type 0 where
  pub there : slice_get p.«module».functions.items k ≡ Some f
  pub at_spot : slice_get p.spots.functions.items k ≡ Some spot
  pub at_spots : slice_get p.spots.insts.items k ≡ Some spots
  pub long : map (λ s. length s.items) spots.items ≡ map (λ x. length x.insts.items) f.blocks.items

pub function_read : (p : Parsed) (k : ℕ) (f : Function) (spot : ℕ) (spots : Vec (Vec ℕ Global) Global) → k < length p.«module».functions.items
    → f ≡ get_or p.«module».functions.items k f → spot ≡ get_or p.spots.functions.items k spot → spots ≡ get_or p.spots.insts.items k spots
    → IsFunctionAt p k f spot spots
function_read p k f spot spots within is spot_is spots_are =
    let lines = λ (v : Vec (Vec ℕ Global) Global). map (λ (b : Vec ℕ Global). length b.items) v.items in
    let insts = λ (g : Function). map (λ (b : Block). length b.insts.items) g.blocks.items in
    let many = as_many lines insts p.spots.insts.items p.«module».functions.items p.insts_spotted in
    let there = slice_get_read p.«module».functions.items (length p.«module».functions.items) k f refl within is in
    let at_spots = slice_get_read p.spots.insts.items (length p.spots.insts.items) k spots refl (omega (arith, many)) spots_are in
    record {
      there = there;
      at_spot = slice_get_read p.spots.functions.items (length p.«module».functions.items) k spot (sym p.functions_spotted) within spot_is;
      at_spots = at_spots;
      long = mapped_at lines insts p.spots.insts.items p.«module».functions.items p.insts_spotted k spots f at_spots there;
    }

pub fits_at : (p : Parsed) → module_known p.«module» ≡ true → (k : ℕ) (f : Function) (spot : ℕ) (spots : Vec (Vec ℕ Global) Global) → IsFunctionAt p k f spot spots
    → AllZip (Fits p.«module».names p.spots) (given_names k (function_shape p.«module».names f)) (given_ids f spot spots.items)
fits_at p known k f spot spots is =
    function_fits p.«module».names p.spots k spot f spots is.at_spot is.at_spots is.long
    (all_at (function_known (length p.«module».names)) p.«module».functions.items (and_right _ _ known) k f is.there)

shape_at : (p : Parsed) (k : ℕ) (f : Function) → slice_get p.«module».functions.items k ≡ Some f
    → slice_get (module_shape p.«module»).functions k ≡ Some (function_shape p.«module».names f)
shape_at p k f there =
    slice_get-map (function_shape p.«module».names) p.«module».functions.items k ∙ ap (option_map (function_shape p.«module».names)) there

again_repeated : (p : Parsed) → module_known p.«module» ≡ true → (k : ℕ) (f : Function) (spot : ℕ) (spots : Vec (Vec ℕ Global) Global)
    → IsFunctionAt p k f spot spots → (at : ℕ) → IsGivenAgain (given_ids f spot spots.items) at → IsRepeatedBelow p (k + 1) at
again_repeated p known k f spot spots is at a =
    let fits = fits_at p known k f spot spots is in
    let one = left_at (Fits p.«module».names p.spots) _ _ fits a.first a.one a.is_first in
    let other = left_at (Fits p.«module».names p.spots) _ _ fits a.second a.other a.is_second in
    record {
      place = other.0.place;
      spotted = other.2.spotted ∙ ap (λ (n : ℕ). Some n) a.at_spot;
      repeated = record {
        number = k;
        function = function_shape p.«module».names f;
        there = shape_at p k f is.there;
        first = a.first;
        second = a.second;
        one = one.0;
        other = other.0;
        before = a.before;
        is_first = one.1;
        is_second = other.1;
        same = one.2.named ∙ ap (text_of p.«module».names) a.same ∙ sym other.2.named;
        at = refl;
      };
      below = omega arith;
    }

repeated_again : (p : Parsed) → module_known p.«module» ≡ true → IsDistinct bytes_eq p.«module».names → (k : ℕ) (f : Function) (spot : ℕ)
    (spots : Vec (Vec ℕ Global) Global) → IsFunctionAt p k f spot spots → (at : ℕ) (r : IsRepeatedBelow p (k + 1) at) → r.repeated.number ≡ k
    → IsGivenAgain (given_ids f spot spots.items) at
repeated_again p known distinct k f spot spots is at r number =
    let names = p.«module».names in
    let fits = fits_at p known k f spot spots is in
    let function : r.repeated.function ≡ function_shape names f =
    same_Some _ _ (sym r.repeated.there ∙ ap (slice_get (module_shape p.«module»).functions) number ∙ shape_at p k f is.there) in
    let given : given_names r.repeated.number r.repeated.function ≡ given_names k (function_shape names f) =
    ap (λ (n : ℕ). given_names n r.repeated.function) number ∙ ap (λ (g : FunctionShape). given_names k g) function in
    let one = right_at (Fits names p.spots) _ _ fits r.repeated.first r.repeated.one
    (subst (λ (g : List GivenName). slice_get g r.repeated.first ≡ Some r.repeated.one) given r.repeated.is_first) in
    let other = right_at (Fits names p.spots) _ _ fits r.repeated.second r.repeated.other
    (subst (λ (g : List GivenName). slice_get g r.repeated.second ≡ Some r.repeated.other) given r.repeated.is_second) in
    record {
      first = r.repeated.first;
      second = r.repeated.second;
      one = one.0;
      other = other.0;
      before = r.repeated.before;
      is_first = one.1;
      is_second = other.1;
      same = one_text names distinct one.0.number other.0.number one.2.known other.2.known (sym one.2.named ∙ r.repeated.same ∙ other.2.named);
      at_spot = same_Some _ _ (sym other.2.spotted ∙ ap (spot_of p.spots) r.repeated.at ∙ r.spotted);
    }

-- the first fault of the functions up to one of them
pub below_more : (p : Parsed) → module_known p.«module» ≡ true → IsDistinct bytes_eq p.«module».names → (k : ℕ) (f : Function) (spot : ℕ)
    (spots : Vec (Vec ℕ Global) Global) → IsFunctionAt p k f spot spots → (first repeat : Option ℕ) → IsFirst (IsRepeatedBelow p k) first
    → IsFirst (IsGivenAgain (given_ids f spot spots.items)) repeat → IsFirst (IsRepeatedBelow p (k + 1)) (first_of first repeat)
below_more p known distinct k f spot spots is first repeat =
    first_either (IsRepeatedBelow p k) (IsGivenAgain (given_ids f spot spots.items)) (IsRepeatedBelow p (k + 1))
    (λ at r. let below = r.below in record { place = r.place; spotted = r.spotted; repeated = r.repeated; below = omega arith })
    (again_repeated p known k f spot spots is)
    (λ at r.
    elim (cases_lt r.repeated.number k) [
      | inl below ↦ inl (record { place = r.place; spotted = r.spotted; repeated = r.repeated; below = below })
      | inr least ↦
          let below = r.below in
          let number : r.repeated.number ≡ k = omega arith in
          inr (repeated_again p known distinct k f spot spots is at r number)
    ])
    first repeat

-- the first fault of all functions
pub below_all : (p : Parsed) (first : Option ℕ) → IsFirst (IsRepeatedBelow p (length p.«module».functions.items)) first → IsFirst (RepeatFault p) first
below_all p =
    first_same (IsRepeatedBelow p (length p.«module».functions.items)) (RepeatFault p) (λ at r. (r.place, r.spotted, r.repeated))
    (λ at fault.
    let within = slice_get_within (module_shape p.«module»).functions fault.2.number fault.2.function fault.2.there in
    let long = length-map p.«module».functions.items (function_shape p.«module».names) in
    record { place = fault.0; spotted = fault.1; repeated = fault.2; below = omega (arith, within, long) })
