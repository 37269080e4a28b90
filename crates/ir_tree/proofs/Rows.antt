-- That the names of a list's elements are known makes those of what holds the list known.
use Rattle.std.proofs.Common.{◌≡◌, ℕ, Bool, true, List, [], ◌∷◌, map, refl, sym, ◌∙◌, ap, Vec, Box, ◌&&◌}
use Rattle.std.specs.List.{list_all}
use Rattle.std.specs.declared.alloc.Global.{Global}
use Rattle.ir_tree.specs.Known.{ty_known, ty_known_step, const_known, const_known_step, typed_known, typed_known_step}
use Rattle.ir_tree.specs.declared.types.Ty.{Ty}
use Rattle.ir_tree.specs.declared.types.Ty.TheOpen as ty
use Rattle.ir_tree.specs.declared.types.Ty.TheVariants as types
use Rattle.ir_tree.specs.declared.types.Ty.TheFolds.{fold-roll-Ty}
use Rattle.ir_tree.specs.declared.types.Typed.{Typed}
use Rattle.ir_tree.specs.declared.types.Const.TheOpen as constant
use Rattle.ir_tree.specs.declared.types.Const.TheVariants as constants
use Rattle.ir_tree.specs.declared.types.Const.TheFolds.{fold-roll-Const}
use Rattle.ir_tree.proofs.Grows.{and_both}

-- a test of each element, on the elements and on their results
pub row_known : {A : Type 0} (k : A → Bool) (xs : List A) → list_all (λ b. b) (map k xs) ≡ list_all k xs
row_known k [] = refl
row_known k (x ∷ xs) = ap (λ b. k x && b) (row_known k xs)

pub struct_known : (n : ℕ) (v : Vec Ty Global) (packed : Bool) → list_all (ty_known n) v.items ≡ true → ty_known n (types.Struct v packed) ≡ true
struct_known n v packed h =
    ap (ty_known n) (sym (types.rolls-Struct v packed)) ∙ fold-roll-Ty Bool (ty_known_step n) (ty.Struct v packed)
    ∙ row_known (ty_known n) v.items ∙ h

pub elements_known : (n : ℕ) (v : Vec Typed Global) → list_all (typed_known n) v.items ≡ true → const_known n (constants.Array v) ≡ true
elements_known n v h =
    ap (const_known n) (sym (constants.rolls-Array v)) ∙ fold-roll-Const Bool Bool (const_known_step n) (typed_known_step n) (constant.Array v)
    ∙ row_known (typed_known n) v.items ∙ h

pub fields_known : (n : ℕ) (v : Vec Typed Global) (packed : Bool) → list_all (typed_known n) v.items ≡ true
    → const_known n (constants.Struct v packed) ≡ true
fields_known n v packed h =
    ap (const_known n) (sym (constants.rolls-Struct v packed)) ∙ fold-roll-Const Bool Bool (const_known_step n) (typed_known_step n) (constant.Struct v packed)
    ∙ row_known (typed_known n) v.items ∙ h

pub address_known : (n : ℕ) (inbounds : Bool) (t : Ty) (base : Box Typed Global) (v : Vec Typed Global) → ty_known n t ≡ true
    → typed_known n base.value ≡ true → list_all (typed_known n) v.items ≡ true → const_known n (constants.Gep inbounds t base v) ≡ true
address_known n inbounds t base v h k l =
    ap (const_known n) (sym (constants.rolls-Gep inbounds t base v))
    ∙ fold-roll-Const Bool Bool (const_known_step n) (typed_known_step n) (constant.Gep inbounds t base v)
    ∙ and_both (and_both h k) (row_known (typed_known n) v.items ∙ l)
