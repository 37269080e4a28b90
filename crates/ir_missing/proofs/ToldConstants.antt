-- What the parts of a constant tell of it.
use Rattle.std.proofs.Common.{◌≡◌, ℕ, Bool, true, List, [], ◌∷◌, ◌++◌, ◌&&◌, map, ap, subst, sym, refl, ◌∙◌, Vec, Box}
use Rattle.std.specs.Prelude.{ℤ, is_some}
use Rattle.std.specs.List.{list_all, flat_map}
use Rattle.std.specs.declared.alloc.Global.{Global}
use Rattle.ir_tree.specs.NameTable.{text_of, IsKnown}
use Rattle.ir_tree.specs.Shape.{ConstShape, TypedShape, typed_row, fixed}
use Rattle.ir_tree.specs.ShapeOf.{ty_shape, const_step, const_shape, typed_step, typed_shape, name_shape, module_shape}
use Rattle.ir_tree.specs.Known.{ty_known, const_known_step, const_known, typed_known_step, typed_known, name_known}
use Rattle.ir_tree.specs.declared.names.NameId.{NameId}
use Rattle.ir_tree.specs.declared.types.Ty.{Ty}
use Rattle.ir_tree.specs.declared.types.Const.{Const, roll-Const}
use Rattle.ir_tree.specs.declared.types.Const.TheOpen as constant
use Rattle.ir_tree.specs.declared.types.Const.TheVariants as constants
use Rattle.ir_tree.specs.declared.types.Const.TheFolds.{fold-roll-Const, fold-roll-Typed, map-Const, ind-Const}
use Rattle.ir_tree.specs.declared.types.Typed.{Typed}
use Rattle.ir_tree.specs.declared.module.Module.{Module}
use Rattle.ir_tree.proofs.Rows.{row_known}
use Rattle.ir_tree.proofs.Grows.{and_left, and_right, and_both}
use Rattle.ir_rules.specs.Uses.{Use, as_global, ty_uses, const_uses, typed_uses, values_uses, callee_uses}
use Rattle.ir_rules.specs.Things.{global_of}
use Rattle.ir_names.specs.Tables.{ModuleTable, AreNamesOf}
use Rattle.ir_missing.specs.Tells.{Outside, Tells}
use Rattle.ir_missing.proofs.Telling.{tells_none, tells_same, tells_one, AllTell}

-- that the names which a constant uses are there
abbrev pub ConstTells : ModuleTable → Const → Bool → Type 0
ConstTells t x answer = Tells (Outside t) (λ n. const_known n x) (λ names. const_uses (const_shape names x)) answer

-- that the names which a constant and its type use are there
abbrev pub TypedTells : ModuleTable → Typed → Bool → Type 0
TypedTells t x answer = Tells (Outside t) (λ n. typed_known n x) (λ names. typed_uses (typed_shape names x)) answer

-- what the outermost layer of a constant tells
layer_told : (t : ModuleTable) (layer : constant.Const-F Const Typed) (x : Const) → roll-Const layer ≡ x → (answer : Bool)
    → Tells (Outside t) (λ n. const_known_step n (map-Const Const Typed Bool Bool (const_known n) (typed_known n) layer))
    (λ names. const_uses (const_step names (map-Const Const Typed ConstShape TypedShape (const_shape names) (typed_shape names) layer))) answer
    → ConstTells t x answer
layer_told t layer x is answer part =
    tells_same part (λ n h. sym (fold-roll-Const Bool Bool (const_known_step n) (typed_known_step n) layer) ∙ ap (const_known n) is ∙ h)
    (λ names.
    ap const_uses (sym (fold-roll-Const ConstShape TypedShape (const_step names) (typed_step names) layer) ∙ ap (const_shape names) is))

pub int_told : (t : ModuleTable) (value : ℤ) → ConstTells t (constants.Int value) true
unfolding const_uses typed_uses values_uses
int_told t value = layer_told t (constant.Int value) _ (constants.rolls-Int value) true tells_none

pub bool_told : (t : ModuleTable) (value : Bool) → ConstTells t (constants.Bool value) true
unfolding const_uses typed_uses values_uses
bool_told t value = layer_told t (constant.Bool value) _ (constants.rolls-Bool value) true tells_none

pub null_told : (t : ModuleTable) → ConstTells t constants.Null true
unfolding const_uses typed_uses values_uses
null_told t = layer_told t constant.Null _ constants.rolls-Null true tells_none

pub undef_told : (t : ModuleTable) → ConstTells t constants.Undef true
unfolding const_uses typed_uses values_uses
undef_told t = layer_told t constant.Undef _ constants.rolls-Undef true tells_none

pub poison_told : (t : ModuleTable) → ConstTells t constants.Poison true
unfolding const_uses typed_uses values_uses
poison_told t = layer_told t constant.Poison _ constants.rolls-Poison true tells_none

pub zero_told : (t : ModuleTable) → ConstTells t constants.Zero true
unfolding const_uses typed_uses values_uses
zero_told t = layer_told t constant.Zero _ constants.rolls-Zero true tells_none

pub text_told : (t : ModuleTable) (v : Vec ℕ Global) → ConstTells t (constants.Text v) true
unfolding const_uses typed_uses values_uses
text_told t v = layer_told t (constant.Text v) _ (constants.rolls-Text v) true tells_none

-- that the names which constants and their types use are there
abbrev pub ValuesTell : ModuleTable → List Typed → Bool → Type 0
ValuesTell t vs answer = AllTell (Outside t) typed_known typed_shape typed_uses vs answer

values_used : (vs : List TypedShape) → flat_map typed_uses vs ≡ values_uses (typed_row vs)
unfolding const_uses typed_uses values_uses
values_used [] = refl
values_used (v ∷ vs) = ap (λ (z : List Use). typed_uses v ++ z) (values_used vs)

-- as the layer has it
values_told : {t : ModuleTable} {answer : Bool} (vs : List Typed) → ValuesTell t vs answer
    → Tells (Outside t) (λ n. list_all (λ b. b) (map (typed_known n) vs)) (λ names. values_uses (typed_row (map (typed_shape names) vs))) answer
values_told vs part = tells_same part (λ n h. sym (row_known (typed_known n) vs) ∙ h) (λ names. values_used (map (typed_shape names) vs))

pub elements_told : (t : ModuleTable) (v : Vec Typed Global) (answer : Bool) → ValuesTell t v.items answer → ConstTells t (constants.Array v) answer
unfolding const_uses typed_uses values_uses
elements_told t v answer part = layer_told t (constant.Array v) _ (constants.rolls-Array v) answer (values_told v.items part)

pub fields_told : (t : ModuleTable) (v : Vec Typed Global) (packed : Bool) (answer : Bool) → ValuesTell t v.items answer
    → ConstTells t (constants.Struct v packed) answer
unfolding const_uses typed_uses values_uses
fields_told t v packed answer part = layer_told t (constant.Struct v packed) _ (constants.rolls-Struct v packed) answer (values_told v.items part)

pub global_told : (t : ModuleTable) (id : NameId) (answer : Bool)
    → ((m : Module) → AreNamesOf m t → IsKnown m.names id.0 → answer ≡ is_some (global_of (module_shape m) (text_of m.names id.0)))
    → ConstTells t (constants.Global id) answer
unfolding const_uses typed_uses values_uses
global_told t id answer are =
    layer_told t (constant.Global id) _ (constants.rolls-Global id) answer
    (tells_one {known = λ n. name_known n id} {named = λ names. as_global (name_shape names id)} (λ m f fit h. are m fit h))

-- the type that is stepped through, the pointer and the indices of an address
pub address_told : (t : ModuleTable) (inbounds : Bool) (x : Ty) (base : Box Typed Global) (v : Vec Typed Global) (answer : Bool)
    → Tells (Outside t) (λ n. (ty_known n x && typed_known n base.value) && list_all (typed_known n) v.items)
    (λ names. (ty_uses (ty_shape names x) ++ typed_uses (typed_shape names base.value)) ++ flat_map typed_uses (map (typed_shape names) v.items)) answer
    → ConstTells t (constants.Gep inbounds x base v) answer
unfolding const_uses typed_uses values_uses
address_told t inbounds x base v answer part =
    layer_told t (constant.Gep inbounds x base v) _ (constants.rolls-Gep inbounds x base v) answer
    (tells_same part (λ n h. and_both (and_left _ _ h) (sym (row_known (typed_known n) v.items) ∙ and_right _ _ h))
    (λ names. ap (λ (z : List Use). (ty_uses (ty_shape names x) ++ typed_uses (typed_shape names base.value)) ++ z) (values_used (map (typed_shape names) v.items))))

pub typed_told : (t : ModuleTable) (x : Typed) (answer : Bool)
    → Tells (Outside t) (λ n. ty_known n x.ty && const_known n x.value) (λ names. ty_uses (ty_shape names x.ty) ++ const_uses (const_shape names x.value)) answer
    → TypedTells t x answer
unfolding const_uses typed_uses values_uses
typed_told t x answer part =
    let layer : constant.Typed-F Const Typed = record { ty = x.ty; value = x.value } in
    tells_same part (λ n h. sym (fold-roll-Typed Bool Bool (const_known_step n) (typed_known_step n) layer) ∙ h)
    (λ names. ap typed_uses (sym (fold-roll-Typed ConstShape TypedShape (const_step names) (typed_step names) layer)))

-- a constant that is no global uses the same where it is called
abbrev UsesAsCalled : Const → Type 0
UsesAsCalled x = ((id : NameId) → x ≡ constants.Global id → ⊥) → (names : List (List ℕ)) → const_uses (const_shape names x) ≡ callee_uses (fixed (const_shape names x))

shaped : (layer : constant.Const-F Const Typed) (names : List (List ℕ))
    → (let s = const_step names (map-Const Const Typed ConstShape TypedShape (const_shape names) (typed_shape names) layer) in const_uses s ≡ callee_uses (fixed s))
    → const_uses (const_shape names (roll-Const layer)) ≡ callee_uses (fixed (const_shape names (roll-Const layer)))
shaped layer names here =
    subst (λ (s : ConstShape). const_uses s ≡ callee_uses (fixed s)) (sym (fold-roll-Const ConstShape TypedShape (const_step names) (typed_step names) layer)) here

as_called : (layer : constant.Const-F Const Typed) → UsesAsCalled (roll-Const layer)
as_called (constant.Int value) not names = shaped (constant.Int value) names refl
as_called (constant.Bool value) not names = shaped (constant.Bool value) names refl
as_called constant.Null not names = shaped constant.Null names refl
as_called constant.Undef not names = shaped constant.Undef names refl
as_called constant.Poison not names = shaped constant.Poison names refl
as_called constant.Zero not names = shaped constant.Zero names refl
as_called (constant.Text v) not names = shaped (constant.Text v) names refl
as_called (constant.Array v) not names = shaped (constant.Array v) names refl
as_called (constant.Struct v packed) not names = shaped (constant.Struct v packed) names refl
as_called (constant.Global id) not names = absurd (not id (constants.rolls-Global id))
as_called (constant.Gep inbounds x base v) not names = shaped (constant.Gep inbounds x base v) names refl

pub called_told : (t : ModuleTable) (x : Const) (answer : Bool) → ((id : NameId) → x ≡ constants.Global id → ⊥) → ConstTells t x answer
    → Tells (Outside t) (λ n. const_known n x) (λ names. callee_uses (fixed (const_shape names x))) answer
called_told t x answer not part =
    tells_same part (λ n h. h) (ind-Const UsesAsCalled (λ v. Unit {0}) (λ x y is. as_called x) (λ x y is. tt) x not)
