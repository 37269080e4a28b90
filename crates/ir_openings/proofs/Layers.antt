-- What one layer of a type opens to.
use Rattle.std.proofs.Common.{◌≡◌, ℕ, ◌<◌, Bool, List, Option, Some, None, refl, sym, ◌∙◌, ap, length, Vec, Box, get_or}
use Rattle.std.specs.declared.alloc.Global.{Global}
use Rattle.std.specs.Option.{option_and_then}
use Rattle.std.proofs.lemmas.Option.{slice_get_within, slice_get-get_or}
use Rattle.ir_tree.specs.declared.names.NameId.{NameId}
use Rattle.ir_tree.specs.declared.types.Ty.{Ty, out-Ty}
use Rattle.ir_tree.specs.declared.types.Ty.TheOpen as ty
use Rattle.ir_tree.specs.declared.types.Ty.TheVariants as types
use Rattle.ir_tree.specs.declared.module.NamedTy.{NamedTy}
use Rattle.ir_layout.specs.Tables.{AreFirst, first_from}
use Rattle.ir_layout.proofs.Numbered.{place_found}
use Rattle.ir_openings.specs.Openings.{opening_in, layer_opening, item_opening, name_opening}
use Rattle.ir_openings.proofs.Types.{rolled}

pub array_opening : (openings : List (Option ℕ)) (at count : ℕ) (element : Box Ty Global)
    → layer_opening openings at (out-Ty (types.Array count element)) ≡ Some at
array_opening openings at count element = ap (layer_opening openings at) (types.outs-Array count element)

pub structure_opening : (openings : List (Option ℕ)) (at : ℕ) (v : Vec Ty Global) (packed : Bool)
    → layer_opening openings at (out-Ty (types.Struct v packed)) ≡ Some at
structure_opening openings at v packed = ap (layer_opening openings at) (types.outs-Struct v packed)

pub name_layer_opening : (openings : List (Option ℕ)) (at : ℕ) (id : NameId)
    → layer_opening openings at (out-Ty (types.Named id)) ≡ opening_in openings id.0
name_layer_opening openings at id = ap (layer_opening openings at) (types.outs-Named id)

-- a type that is no array, no structure and no name
pub record IsOther (t : Ty) : Type 0 where
  pub no_array : (count : ℕ) (element : Box Ty Global) → t ≡ types.Array count element → ⊥
  pub no_structure : (v : Vec Ty Global) (packed : Bool) → t ≡ types.Struct v packed → ⊥
  pub no_name : (id : NameId) → t ≡ types.Named id → ⊥

pub other_opening : (openings : List (Option ℕ)) (at : ℕ) (t : Ty) → IsOther t → layer_opening openings at (out-Ty t) ≡ None
other_opening openings at t other = by_layer (out-Ty t) refl
  where
    by_layer : (y : ty.Ty-F Ty) → out-Ty t ≡ y → layer_opening openings at y ≡ None
    by_layer (ty.Int bits) e = refl
    by_layer ty.Ptr e = refl
    by_layer ty.Void e = refl
    by_layer (ty.Array count element) e = absurd (other.no_array count element (rolled t _ e ∙ types.rolls-Array count element))
    by_layer (ty.Struct v packed) e = absurd (other.no_structure v packed (rolled t _ e ∙ types.rolls-Struct v packed))
    by_layer (ty.Named id) e = absurd (other.no_name id (rolled t _ e ∙ types.rolls-Named id))

some_place : (o p : Option ℕ) → ◌≡◌ {A = Option (Option ℕ)} (Some o) (Some p) → o ≡ p
some_place o p e = cc

-- what the table of first places has for a name
pub first_at : (ts : List NamedTy) (first : List (Option ℕ)) (id : ℕ) (o : Option ℕ) → AreFirst ts first → id < length first
    → get_or first id None ≡ o → first_from 0 ts id ≡ o
first_at ts first id o are within here =
    some_place (first_from 0 ts id) o (sym (are id within) ∙ slice_get-get_or first id None within ∙ ap (λ (z : Option ℕ). Some z) here)

-- a place in it is that of a named type
pub first_within : (ts : List NamedTy) (first : List (Option ℕ)) (id at : ℕ) → AreFirst ts first → id < length first → get_or first id None ≡ Some at
    → at < length ts
first_within ts first id at are within here =
    let there = slice_get-get_or first id None within ∙ ap (λ (z : Option ℕ). Some z) here in
    let found = place_found ts first are id at there in
    slice_get_within ts at found.0 found.1

-- by which the name opens
pub opening_at : (ts : List NamedTy) (first openings : List (Option ℕ)) (id at : ℕ) (item : NamedTy) → AreFirst ts first → id < length first
    → get_or first id None ≡ Some at → name_opening ts openings id ≡ layer_opening openings at (out-Ty (get_or ts at item).ty)
opening_at ts first openings id at item are within here =
    let there = slice_get-get_or ts at item (first_within ts first id at are within here) in
    ap (option_and_then (item_opening ts openings)) (first_at ts first id (Some at) are within here)
    ∙ ap (option_and_then (λ (t : NamedTy). layer_opening openings at (out-Ty t.ty))) there
