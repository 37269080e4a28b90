-- Indices that are numbers.
use Rattle.std.proofs.Common.{◌≡◌, ℕ, ℤ, Bool, true, false, List, Option, Some, None, sym, ◌∙◌, ap, subst}
use Rattle.ir_tree.specs.Shape.{TyShape, ConstShape, number, boolean, null, undef, poison, zero_value, text, elements, fields, global, address}
use Rattle.ir_tree.specs.ShapeOf.{ty_shape, const_shape, typed_shape}
use Rattle.ir_tree.specs.declared.types.Typed.{Typed, out-Typed}
use Rattle.ir_type_tests.proofs.Both.{never, fails}
use Rattle.ir_rules.specs.Constants.{IsLiteral, IsIndex, const_number}
use Rattle.ir_check_consts.proofs.Told.{Tells}
use Rattle.ir_check_consts.proofs.Shapes.{typed_is}
use Rattle.ir_check_consts.proofs.Rows.{IsNumber}

-- a constant with a number is that number
number_found : (c : ConstShape) (value : ℤ) → const_number c ≡ Some value → c ≡ number value
number_found (number v) value e =
    let same : v ≡ value = cc in
    ap number same
number_found (boolean b) value e = cc
number_found null value e = cc
number_found undef value e = cc
number_found poison value e = cc
number_found zero_value value e = cc
number_found (text bytes) value e = cc
number_found (elements vs) value e = cc
number_found (fields vs packed) value e = cc
number_found (global name) value e = cc
number_found (address inbounds t base indices) value e = cc

one_number : (v value : ℤ) → number v ≡ number value → v ≡ value
one_number v value e = cc

abbrev pub IsSomeIndex : TyShape → ConstShape → Type 0
IsSomeIndex t c = (value : ℤ) × IsIndex t c value

pub index_told : (t : TyShape) (c : ConstShape) (value : ℤ) (b : Bool) → const_number c ≡ Some value → Tells b (IsLiteral value t) → Tells b (IsSomeIndex t c)
index_told t c value b e tells =
    let is = number_found c value e in (
      λ yes. (value, record { is_number = is; fits = tells.0 yes }),
      λ (v, index). tells.1 (subst (λ (z : ℤ). IsLiteral z t) (one_number v value (sym index.is_number ∙ is)) index.fits),
    )

pub no_index : (t : TyShape) (c : ConstShape) (b : Bool) → b ≡ false → const_number c ≡ None → Tells b (IsSomeIndex t c)
no_index t c b unmet e =
    never (IsSomeIndex t c) b unmet
    (λ (v, index).
    let wrong : ◌≡◌ {A = Option ℤ} None (Some v) = sym e ∙ ap const_number index.is_number in
    cc)

-- of a constant with its type
pub number_passes : (names : List (List ℕ)) (v : Typed) (b : Bool) → b ≡ true → Tells b (IsSomeIndex (ty_shape names (out-Typed v).ty) (const_shape names (out-Typed v).value))
    → IsNumber (typed_shape names v)
number_passes names v b is tells = subst IsNumber (sym (typed_is names v)) (tells.0 is)

pub number_fails : (names : List (List ℕ)) (v : Typed) (b : Bool) → b ≡ false → Tells b (IsSomeIndex (ty_shape names (out-Typed v).ty) (const_shape names (out-Typed v).value))
    → IsNumber (typed_shape names v) → ⊥
number_fails names v b is tells passes =
    fails (IsSomeIndex (ty_shape names (out-Typed v).ty) (const_shape names (out-Typed v).value)) b is tells (subst IsNumber (typed_is names v) passes)
