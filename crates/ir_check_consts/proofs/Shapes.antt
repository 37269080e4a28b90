-- Constants by their parts: the shape of each, and that its names are known.
use Rattle.std.proofs.Common.{◌≡◌, ℕ, ℤ, Bool, true, ◌&&◌, List, [], ◌∷◌, map, refl, sym, ap, ◌∙◌, Vec, Box}
use Rattle.std.specs.declared.alloc.Global.{Global}
use Rattle.std.specs.List.{list_all}
use Rattle.ir_tree.specs.NameTable.{text_of}
use Rattle.ir_tree.specs.Shape.{ConstShape, TypedShape, number, boolean, null, undef, poison, zero_value, global, address, typed, typed_row}
use Rattle.ir_tree.specs.ShapeOf.{const_step, typed_step, const_shape, typed_shape, ty_shape}
use Rattle.ir_tree.specs.Known.{const_known_step, typed_known_step, const_known, typed_known, ty_known}
use Rattle.ir_tree.specs.declared.names.NameId.{NameId}
use Rattle.ir_tree.specs.declared.types.Ty.{Ty}
use Rattle.ir_tree.specs.declared.types.Const.TheOpen as constant
use Rattle.ir_tree.specs.declared.types.Const.TheVariants as constants
use Rattle.ir_tree.specs.declared.types.Const.TheFolds.{fold-roll-Const, fold_out-Typed}
use Rattle.ir_tree.specs.declared.types.Typed.{Typed, out-Typed}
use Rattle.ir_tree.proofs.Grows.{and_left, and_right, and_both}

pub number_shape : (names : List (List ℕ)) (value : ℤ) → const_shape names (constants.Int value) ≡ number value
number_shape names value =
    ap (const_shape names) (sym (constants.rolls-Int value)) ∙ fold-roll-Const ConstShape TypedShape (const_step names) (typed_step names) (constant.Int value)

pub boolean_shape : (names : List (List ℕ)) (value : Bool) → const_shape names (constants.Bool value) ≡ boolean value
boolean_shape names value =
    ap (const_shape names) (sym (constants.rolls-Bool value)) ∙ fold-roll-Const ConstShape TypedShape (const_step names) (typed_step names) (constant.Bool value)

pub null_shape : (names : List (List ℕ)) → const_shape names constants.Null ≡ null
null_shape names = ap (const_shape names) (sym constants.rolls-Null) ∙ fold-roll-Const ConstShape TypedShape (const_step names) (typed_step names) constant.Null

pub undef_shape : (names : List (List ℕ)) → const_shape names constants.Undef ≡ undef
undef_shape names = ap (const_shape names) (sym constants.rolls-Undef) ∙ fold-roll-Const ConstShape TypedShape (const_step names) (typed_step names) constant.Undef

pub poison_shape : (names : List (List ℕ)) → const_shape names constants.Poison ≡ poison
poison_shape names = ap (const_shape names) (sym constants.rolls-Poison) ∙ fold-roll-Const ConstShape TypedShape (const_step names) (typed_step names) constant.Poison

pub zero_shape : (names : List (List ℕ)) → const_shape names constants.Zero ≡ zero_value
zero_shape names = ap (const_shape names) (sym constants.rolls-Zero) ∙ fold-roll-Const ConstShape TypedShape (const_step names) (typed_step names) constant.Zero

pub global_shape : (names : List (List ℕ)) (id : NameId) → const_shape names (constants.Global id) ≡ global (text_of names id.0)
global_shape names id =
    ap (const_shape names) (sym (constants.rolls-Global id)) ∙ fold-roll-Const ConstShape TypedShape (const_step names) (typed_step names) (constant.Global id)

pub address_shape : (names : List (List ℕ)) (inbounds : Bool) (t : Ty) (base : Box Typed Global) (v : Vec Typed Global)
    → const_shape names (constants.Gep inbounds t base v)
    ≡ address inbounds (ty_shape names t) (typed_shape names base.value) (typed_row (map (typed_shape names) v.items))
address_shape names inbounds t base v =
    ap (const_shape names) (sym (constants.rolls-Gep inbounds t base v))
    ∙ fold-roll-Const ConstShape TypedShape (const_step names) (typed_step names) (constant.Gep inbounds t base v)

-- a constant with its type
pub typed_is : (names : List (List ℕ)) (v : Typed) → typed_shape names v ≡ typed (ty_shape names (out-Typed v).ty) (const_shape names (out-Typed v).value)
typed_is names v = fold_out-Typed ConstShape TypedShape (const_step names) (typed_step names) v

pub typed_known_is : (n : ℕ) (v : Typed) → typed_known n v ≡ (ty_known n (out-Typed v).ty && const_known n (out-Typed v).value)
typed_known_is n v = fold_out-Typed Bool Bool (const_known_step n) (typed_known_step n) v

-- what passes when it is mapped passes
all_mapped : {A : Type 0} (p : A → Bool) (xs : List A) → list_all (λ b. b) (map p xs) ≡ true → list_all p xs ≡ true
all_mapped p [] h = refl
all_mapped p (x ∷ xs) h = and_both (and_left _ _ h) (all_mapped p xs (and_right _ _ h))

pub elements_known : (n : ℕ) (v : Vec Typed Global) → const_known n (constants.Array v) ≡ true → list_all (typed_known n) v.items ≡ true
elements_known n v known =
    all_mapped (typed_known n) v.items
    (sym (ap (const_known n) (sym (constants.rolls-Array v)) ∙ fold-roll-Const Bool Bool (const_known_step n) (typed_known_step n) (constant.Array v)) ∙ known)

pub fields_known : (n : ℕ) (v : Vec Typed Global) (packed : Bool) → const_known n (constants.Struct v packed) ≡ true → list_all (typed_known n) v.items ≡ true
fields_known n v packed known =
    all_mapped (typed_known n) v.items
    (sym (ap (const_known n) (sym (constants.rolls-Struct v packed))
    ∙ fold-roll-Const Bool Bool (const_known_step n) (typed_known_step n) (constant.Struct v packed)) ∙ known)
