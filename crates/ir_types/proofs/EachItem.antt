-- Looks at the items of one kind, one after the other.
use Rattle.std.proofs.Common.{◌≡◌, ℕ, ◌+◌, ◌<◌, ◌≤◌, List, length, map, Bool, true, Option, Some, get_or, refl, sym, ◌∙◌, ap, subst, arith, slice_get}
use Rattle.std.specs.Prelude.{◌↔◌, IsTrue}
use Rattle.std.proofs.lemmas.Option.{slice_get_read, slice_get_within}
use Rattle.ir_tree.specs.Known.{module_known, named_ty_known, global_known, ty_known}
use Rattle.ir_tree.specs.Shape.{NamedTyShape}
use Rattle.ir_tree.specs.ShapeOf.{module_shape, named_ty_shape, global_shape, declare_shape, function_shape}
use Rattle.ir_tree.specs.declared.module.NamedTy.{NamedTy}
use Rattle.ir_tree.specs.declared.module.GlobalItem.{GlobalItem}
use Rattle.ir_tree.specs.declared.module.Module.{Module}
use Rattle.ir_tree.specs.declared.parsed.Parsed.{Parsed}
use Rattle.ir_tree.proofs.Grows.{and_left, and_right}
use Rattle.ir_layout.specs.Rules.{IsSized}
use Rattle.ir_names.proofs.AllKnown.{one_of_all}
use Rattle.ir_rules.specs.Places.{Place, type_at, global_at, declare_at, function_at, spot_of}
use Rattle.ir_rules.specs.TypeRules.{HasProperTypes, IsProperGlobal, IsProperDeclare, IsProperHead}
use Rattle.ir_repeats.specs.Least.{first_of}
use Rattle.ir_types.specs.Looks.{HasLooked, fault_at}
use Rattle.ir_types.proofs.Looking.{Below, looked_at, looked_all, below_more, tells_at}

-- the items of one kind: their places, their spots, and when one is proper by its shape
pub record AreItems {X S : Type 0} (p : Parsed) (kind : ℕ → Place) (f : X → S) (P : S → Type 0) (xs : List X) (spots : List ℕ) : Type 0 where
  pub long : length spots ≡ length xs
  pub spotted : (k : ℕ) → spot_of p.spots (kind k) ≡ slice_get spots k
  pub proper : (k : ℕ) → ((s : S) → slice_get (map f xs) k ≡ Some s → P s) ↔ HasProperTypes (module_shape p.«module») (kind k)

module _ {X S : Type 0} (p : Parsed) (kind : ℕ → Place) (f : X → S) (P : S → Type 0) (xs : List X) (spots : List ℕ) (are : AreItems p kind f P xs spots) where
  -- one item more
  pub item_more : (at : ℕ) (x : X) (spot : ℕ) (test : Bool) (found more new : Option ℕ) → at < length xs → x ≡ get_or xs at x → spot ≡ get_or spots at spot
      → IsTrue test ↔ P (f x) → more ≡ fault_at test spot → new ≡ first_of found more → HasLooked p (Below (λ k q. q ≡ kind k) at) found
      → HasLooked p (Below (λ k q. q ≡ kind k) (at + 1)) new
  item_more at x spot test found more new within is spot_is tells one both looked =
      let here = slice_get_read xs (length xs) at x refl within is in
      let spotted = are.spotted at ∙ slice_get_read spots (length xs) at spot (sym are.long) within spot_is in
      let told = tells_at f xs at x P test here tells in
      let proper = are.proper at in
      let last = looked_at p (λ q. q ≡ kind at) (kind at) spot test (λ q e. e) spotted (λ yes. proper.0 (told.0 yes), λ all. told.1 (proper.1 all)) in
      below_more p (λ k q. q ≡ kind k) at found more new both looked (subst (λ (o : Option ℕ). HasLooked p (λ q. q ≡ kind at) o) (sym one) last)

  -- all items
  pub items_all : (n : ℕ) (found : Option ℕ) → length xs ≤ n → HasLooked p (Below (λ k q. q ≡ kind k) n) found → HasLooked p (λ q. (k : ℕ) × (q ≡ kind k)) found
  items_all n found past =
      looked_all p (Below (λ k q. q ≡ kind k) n) (λ q. (k : ℕ) × (q ≡ kind k)) found
      (λ q at h e.
      let spot = sym (are.spotted h.0) ∙ ap (spot_of p.spots) (sym h.1) ∙ e in
      let within = slice_get_within spots h.0 at spot in
      let long = are.long in
      (h.0, h.1, omega arith))

pub are_types : (p : Parsed) → AreItems p (λ k. type_at k) (named_ty_shape p.«module».names) (λ (t : NamedTyShape). IsSized (module_shape p.«module»).types t.ty)
    p.«module».types.items p.spots.types.items
are_types p = record { long = p.types_spotted; spotted = λ k. refl; proper = λ k. (λ h. h, λ h. h) }

pub are_globals : (p : Parsed) → AreItems p (λ k. global_at k) (global_shape p.«module».names) (IsProperGlobal (module_shape p.«module»).types)
    p.«module».globals.items p.spots.globals.items
are_globals p = record { long = p.globals_spotted; spotted = λ k. refl; proper = λ k. (λ h. h, λ h. h) }

pub are_declares : (p : Parsed) → AreItems p (λ k. declare_at k) (declare_shape p.«module».names) IsProperDeclare p.«module».declares.items p.spots.declares.items
are_declares p = record { long = p.declares_spotted; spotted = λ k. refl; proper = λ k. (λ h. h, λ h. h) }

pub are_heads : (p : Parsed) → AreItems p (λ k. function_at k) (function_shape p.«module».names) IsProperHead p.«module».functions.items p.spots.functions.items
are_heads p = record { long = p.functions_spotted; spotted = λ k. refl; proper = λ k. (λ h. h, λ h. h) }

-- the names of an item are known
pub type_known : (m : Module) (at : ℕ) (t : NamedTy) → module_known m ≡ true → at < length m.types.items → t ≡ get_or m.types.items at t
    → ty_known (length m.names) t.ty ≡ true
type_known m at t known within is =
    let one = one_of_all (named_ty_known (length m.names)) m.types.items at t within (and_left _ _ (and_left _ _ (and_left _ _ known))) in
    and_right _ _ (subst (λ (u : NamedTy). named_ty_known (length m.names) u ≡ true) (sym is) one)

pub global_is_known : (m : Module) (at : ℕ) (g : GlobalItem) → module_known m ≡ true → at < length m.globals.items → g ≡ get_or m.globals.items at g
    → global_known (length m.names) g ≡ true
global_is_known m at g known within is =
    let one = one_of_all (global_known (length m.names)) m.globals.items at g within (and_right _ _ (and_left _ _ (and_left _ _ known))) in
    subst (λ (u : GlobalItem). global_known (length m.names) u ≡ true) (sym is) one
