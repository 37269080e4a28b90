-- Whether the names at one place are there.
use Rattle.std.proofs.Common.{◌≡◌, ℕ, ◌<◌, ◌≤◌, Bool, true, false, List, length, map, Some, None, sym, ◌∙◌, ap, arith, slice_get, get_or}
use Rattle.std.specs.Option.{option_map}
use Rattle.std.specs.List.{list_all}
use Rattle.std.proofs.lemmas.Option.{slice_get-map, slice_get-get_or}
use Rattle.ir_tree.specs.ShapeOf.{module_shape}
use Rattle.ir_tree.specs.declared.parsed.Parsed.{Parsed}
use Rattle.ir_rules.specs.Places.{Place, spot_of}
use Rattle.ir_rules.specs.NameRules.{AreThere}
use Rattle.ir_rules.specs.Faults.{IsFirst}
use Rattle.ir_names.proofs.AllKnown.{one_of_all}
use Rattle.ir_missing.specs.Missing.{IsMissing}

-- a place whose names are there, and one of which a name isn't there
pub place_whole : (p : Parsed) (place : Place) → AreThere (module_shape p.«module») place → IsFirst (IsMissing p place) None
place_whole p place are at miss = miss.not_there are

same_spot : (x y : ℕ) → Some x ≡ Some y → x ≤ y
same_spot x y e = let same : x ≡ y = cc in omega arith

pub place_faulty : (p : Parsed) (place : Place) (spot : ℕ) → spot_of p.spots place ≡ Some spot → (AreThere (module_shape p.«module») place → ⊥)
    → IsFirst (IsMissing p place) (Some spot)
place_faulty p place spot here not = (record { spot = here; not_there = not }, λ other miss. same_spot spot other (sym here ∙ miss.spot))

-- an element at a place, by its shape
shaped_at : {X Y : Type 0} (g : X → Y) (xs : List X) (k : ℕ) (x : X) → k < length xs → x ≡ get_or xs k x → slice_get (map g xs) k ≡ Some (g x)
shaped_at g xs k x within is =
    slice_get-map g xs k ∙ ap (option_map g) (slice_get-get_or xs k x within ∙ ap (λ z. Some z) (sym is))

some_same : {Y : Type 0} (y z : Y) → Some y ≡ Some z → y ≡ z
some_same y z e = cc

-- a test of the one element at a place
pub item_passes : {X Y : Type 0} (g : X → Y) (test : Y → Bool) (xs : List X) (k : ℕ) (x : X) → k < length xs → x ≡ get_or xs k x → test (g x) ≡ true
    → (y : Y) → slice_get (map g xs) k ≡ Some y → test y ≡ true
item_passes g test xs k x within is passes y there = ap test (sym (some_same (g x) y (sym (shaped_at g xs k x within is) ∙ there))) ∙ passes

true_false : (b : Bool) → b ≡ true → b ≡ false → ⊥
true_false b e f = cc

pub item_fails : {X Y : Type 0} (g : X → Y) (test : Y → Bool) (xs : List X) (k : ℕ) (x : X) → k < length xs → x ≡ get_or xs k x → test (g x) ≡ false
    → ((y : Y) → slice_get (map g xs) k ≡ Some y → test y ≡ true) → ⊥
item_fails g test xs k x within is fails all = true_false (test (g x)) (all (g x) (shaped_at g xs k x within is)) fails

-- an element of known ones
pub known_at : {X : Type 0} (known : X → Bool) (xs : List X) (k : ℕ) (x : X) → k < length xs → x ≡ get_or xs k x → list_all known xs ≡ true → known x ≡ true
known_at known xs k x within is all = ap known is ∙ one_of_all known xs k x within all
