-- The values of constants, by their kinds.
use Rattle.std.proofs.Common.{◌≡◌, ◌≤◌, ◌<◌, ℕ, ◌+◌, ℤ, Bool, true, false, inl, inr, ◌⊎◌, List, [], ◌∷◌, length, map, Option, Some, None, arith, refl, sym, ap, subst, ◌∙◌, Vec, Box}
use Rattle.std.specs.Prelude.{if◌then◌else◌, IfSome}
use Rattle.std.specs.declared.alloc.Global.{Global}
use Rattle.std.specs.List.{position_from}
use Rattle.std.specs.Str.{bytes_eq}
use Rattle.ir_tree.specs.NameTable.{text_of, IsKnown}
use Rattle.ir_tree.specs.Shape.{TyShape, ConstShape, number, boolean, null, undef, poison, zero_value, text, elements, fields, global, address, TypedShape, typed, typed_row, NamedTyShape, ModuleShape}
use Rattle.ir_tree.specs.ShapeOf.{const_step, typed_step, const_shape, typed_shape, ty_shape}
use Rattle.ir_tree.specs.Known.{const_known_step, typed_known_step, const_known, typed_known, ty_known}
use Rattle.ir_tree.specs.declared.names.NameId.{NameId}
use Rattle.ir_tree.specs.declared.types.Ty.{Ty}
use Rattle.ir_tree.specs.declared.types.Const.{Const}
use Rattle.ir_tree.specs.declared.types.Const.TheOpen as constant
use Rattle.ir_tree.specs.declared.types.Const.TheVariants as constants
use Rattle.ir_tree.specs.declared.types.Const.TheFolds.{fold-roll-Const}
use Rattle.ir_tree.specs.declared.types.Typed.{Typed, out-Typed}
use Rattle.ir_tree.proofs.Grows.{and_left, and_right}
use Rattle.ir_layout.specs.Rules.{IsSized}
use Rattle.ir_rules.specs.Constants.{HasConst, HasBase, IsLiteral, AreNumbers, WalksBehind, row_numbers}
use Rattle.ir_rules.specs.Things.{global_of}
use Rattle.ir_check_consts.proofs.Shapes.{number_shape, boolean_shape, null_shape, undef_shape, poison_shape, zero_shape, global_shape, address_shape, typed_is, typed_known_is}
use Rattle.ir_model.specs.Values.{Value, Integer, Address, Poison, null_pointer}
use Rattle.ir_model.specs.Integers.{bits_of}
use Rattle.ir_model.specs.Pointers.{walked}
use Rattle.ir_program.specs.Strides.{width_of, strides_of, scaled_only}
use Rattle.ir_program.specs.Constants.{const_value, typed_value, zero_of, global_address, rooms, row_indices, row_values}

-- the shapes of constants that are no values
pub text_shape : (names : List (List ℕ)) (v : Vec ℕ Global) → const_shape names (constants.Text v) ≡ text v.items
text_shape names v = ap (const_shape names) (sym (constants.rolls-Text v)) ∙ fold-roll-Const ConstShape TypedShape (const_step names) (typed_step names) (constant.Text v)

pub elements_shape : (names : List (List ℕ)) (v : Vec Typed Global) → const_shape names (constants.Array v) ≡ elements (typed_row (map (typed_shape names) v.items))
elements_shape names v =
    ap (const_shape names) (sym (constants.rolls-Array v)) ∙ fold-roll-Const ConstShape TypedShape (const_step names) (typed_step names) (constant.Array v)

pub fields_shape : (names : List (List ℕ)) (v : Vec Typed Global) (packed : Bool)
    → const_shape names (constants.Struct v packed) ≡ fields (typed_row (map (typed_shape names) v.items)) packed
fields_shape names v packed =
    ap (const_shape names) (sym (constants.rolls-Struct v packed)) ∙ fold-roll-Const ConstShape TypedShape (const_step names) (typed_step names) (constant.Struct v packed)

module _ (m : ModuleShape) (names : List (List ℕ)) (t : TyShape) (c : Const) where
  valued : (x : ConstShape) (v : Value) → const_shape names c ≡ x → v ≡ const_value m t x → v ≡ const_value m t (const_shape names c)
  valued x v is gives = gives ∙ ap (const_value m t) (sym is)

  pub number_valued : (z : ℤ) (w n : ℕ) → c ≡ constants.Int z → w ≡ width_of t → n ≡ bits_of w z → Integer w n ≡ const_value m t (const_shape names c)
  unfolding const_value
  number_valued z w n is wide bits =
      valued (number z) (Integer w n) (ap (const_shape names) is ∙ number_shape names z)
      (ap (Integer w) bits ∙ ap (λ (k : ℕ). Integer k (bits_of k z)) wide)

  pub boolean_valued : (b : Bool) (n : ℕ) → c ≡ constants.Bool b → n ≡ (if b then 1 else 0) → Integer 1 n ≡ const_value m t (const_shape names c)
  unfolding const_value
  boolean_valued b n is bit = valued (boolean b) (Integer 1 n) (ap (const_shape names) is ∙ boolean_shape names b) (ap (Integer 1) bit)

  pub null_valued : c ≡ constants.Null → Address null_pointer ≡ const_value m t (const_shape names c)
  unfolding const_value
  null_valued is = valued null (Address null_pointer) (ap (const_shape names) is ∙ null_shape names) refl

  pub zero_valued : (v : Value) → c ≡ constants.Zero → v ≡ zero_of t → v ≡ const_value m t (const_shape names c)
  unfolding const_value
  zero_valued v is zeros = valued zero_value v (ap (const_shape names) is ∙ zero_shape names) zeros

  pub global_valued : (id : NameId) (v : Value) → c ≡ constants.Global id → v ≡ global_address (global_of m (text_of names id.0))
      → v ≡ const_value m t (const_shape names c)
  unfolding const_value
  global_valued id v is at = valued (global (text_of names id.0)) v (ap (const_shape names) is ∙ global_shape names id) at

  pub undef_valued : c ≡ constants.Undef → Poison ≡ const_value m t (const_shape names c)
  unfolding const_value
  undef_valued is = valued undef Poison (ap (const_shape names) is ∙ undef_shape names) refl

  pub poison_valued : c ≡ constants.Poison → Poison ≡ const_value m t (const_shape names c)
  unfolding const_value
  poison_valued is = valued poison Poison (ap (const_shape names) is ∙ poison_shape names) refl

  pub text_valued : (v : Vec ℕ Global) → c ≡ constants.Text v → Poison ≡ const_value m t (const_shape names c)
  unfolding const_value
  text_valued v is = valued (text v.items) Poison (ap (const_shape names) is ∙ text_shape names v) refl

  pub elements_valued : (v : Vec Typed Global) → c ≡ constants.Array v → Poison ≡ const_value m t (const_shape names c)
  unfolding const_value
  elements_valued v is = valued (elements (typed_row (map (typed_shape names) v.items))) Poison (ap (const_shape names) is ∙ elements_shape names v) refl

  pub fields_valued : (v : Vec Typed Global) (packed : Bool) → c ≡ constants.Struct v packed → Poison ≡ const_value m t (const_shape names c)
  unfolding const_value
  fields_valued v packed is =
      valued (fields (typed_row (map (typed_shape names) v.items)) packed) Poison (ap (const_shape names) is ∙ fields_shape names v packed) refl

  -- what is no value, however it is written
  pub poison_valued_by : (c ≡ constants.Undef) ⊎ ((c ≡ constants.Poison) ⊎ (((v : Vec ℕ Global) × (c ≡ constants.Text v))
      ⊎ (((v : Vec Typed Global) × (c ≡ constants.Array v)) ⊎ ((v : Vec Typed Global) × (packed : Bool) × (c ≡ constants.Struct v packed)))))
      → Poison ≡ const_value m t (const_shape names c)
  poison_valued_by (inl is) = undef_valued is
  poison_valued_by (inr (inl is)) = poison_valued is
  poison_valued_by (inr (inr (inl (v, is)))) = text_valued v is
  poison_valued_by (inr (inr (inr (inl (v, is))))) = elements_valued v is
  poison_valued_by (inr (inr (inr (inr (v, packed, is))))) = fields_valued v packed is

  pub address_valued : (inbounds : Bool) (u : Ty) (base : Box Typed Global) (v : Vec Typed Global) (start x : Value) → c ≡ constants.Gep inbounds u base v
      → start ≡ typed_value m (typed_shape names base.value)
      → (let row = typed_row (map (typed_shape names) v.items) in
      let strides = strides_of m.types (ty_shape names u) (row_indices row) in
      x ≡ walked inbounds strides (rooms m) start (scaled_only strides (row_values m row)))
      → x ≡ const_value m t (const_shape names c)
  unfolding const_value
  address_valued inbounds u base v start x is from leads =
      let row = typed_row (map (typed_shape names) v.items) in
      let strides = strides_of m.types (ty_shape names u) (row_indices row) in
      valued (address inbounds (ty_shape names u) (typed_shape names base.value) row) x (ap (const_shape names) is ∙ address_shape names inbounds u base v)
      (leads ∙ ap (λ (z : Value). walked inbounds strides (rooms m) z (scaled_only strides (row_values m row)))
      from)

-- a number of its type
pub literal_of : (ts : List NamedTyShape) (names : List (List ℕ)) (c : Const) (t : TyShape) (z : ℤ) → c ≡ constants.Int z → HasConst ts (const_shape names c) t → IsLiteral z t
unfolding HasConst
literal_of ts names c t z is has = subst (λ (x : ConstShape). HasConst ts x t) (ap (const_shape names) is ∙ number_shape names z) has

pub literal_wide : (z : ℤ) (t : TyShape) (w : ℕ) → IsLiteral z t → w ≡ width_of t → w ≤ 64
literal_wide z t w literal is = subst (λ (n : ℕ). n ≤ 64) (sym (is ∙ ap width_of literal.1)) literal.3

-- what an address steps from, and by
pub record StepsFrom (ts : List NamedTyShape) (names : List (List ℕ)) (u : Ty) (from : Typed) (row : List Typed) : Type 0 where
  pub sized : IsSized ts (ty_shape names u)
  pub base : HasConst ts (const_shape names (out-Typed from).value) (ty_shape names (out-Typed from).ty)
  pub numbers : AreNumbers (typed_row (map (typed_shape names) row))
  pub walks : WalksBehind ts (ty_shape names u) (row_numbers (typed_row (map (typed_shape names) row)))

base_const : (ts : List NamedTyShape) (t : TyShape) (c : ConstShape) → HasBase ts (typed t c) → HasConst ts c t
unfolding HasConst
base_const ts t c has = subst (HasConst ts c) (sym has.0) has.2

pub steps_from : (ts : List NamedTyShape) (names : List (List ℕ)) (c : Const) (t : TyShape) (inbounds : Bool) (u : Ty) (base : Box Typed Global) (v : Vec Typed Global)
    → c ≡ constants.Gep inbounds u base v → HasConst ts (const_shape names c) t → StepsFrom ts names u base.value v.items
unfolding HasConst
steps_from ts names c t inbounds u base v is has =
    let parts = subst (λ (x : ConstShape). HasConst ts x t) (ap (const_shape names) is ∙ address_shape names inbounds u base v) has in
    record {
      sized = parts.1;
      base = base_const ts _ _ (subst (HasBase ts) (typed_is names base.value) parts.2);
      numbers = parts.3;
      walks = parts.4;
    }

-- its names
pub record AreKnownIn (n : ℕ) (u : Ty) (base : Typed) : Type 0 where
  pub steps : ty_known n u ≡ true
  pub from : typed_known n base ≡ true

pub address_known : (n : ℕ) (c : Const) (inbounds : Bool) (u : Ty) (base : Box Typed Global) (v : Vec Typed Global)
    → c ≡ constants.Gep inbounds u base v → const_known n c ≡ true → AreKnownIn n u base.value
address_known n c inbounds u base v is known =
    let all = sym (ap (const_known n) (is ∙ sym (constants.rolls-Gep inbounds u base v))
    ∙ fold-roll-Const Bool Bool (const_known_step n) (typed_known_step n) (constant.Gep inbounds u base v)) ∙ known in
    record { steps = and_left _ _ (and_left _ _ all); from = and_right _ _ (and_left _ _ all) }

pub record AreKnownParts (n : ℕ) (v : Typed) : Type 0 where
  pub ty : ty_known n (out-Typed v).ty ≡ true
  pub value : const_known n (out-Typed v).value ≡ true

pub typed_parts : (n : ℕ) (v : Typed) → typed_known n v ≡ true → AreKnownParts n v
typed_parts n v known =
    let both = sym (typed_known_is n v) ∙ known in
    record { ty = and_left _ _ both; value = and_right _ _ both }

-- a global's name is known
pub global_known : (names : List (List ℕ)) (c : Const) (id : NameId) → c ≡ constants.Global id → const_known (length names) c ≡ true → IsKnown names id.0
global_known names c id is known =
    sym (ap (const_known (length names)) (is ∙ sym (constants.rolls-Global id))
    ∙ fold-roll-Const Bool Bool (const_known_step (length names)) (typed_known_step (length names)) (constant.Global id)) ∙ known

-- a place that is found is one of the list
found_next : {X : Type 0} (b : Bool) (at : ℕ) (x : X) (xs : List X) (o : Option ℕ) → IfSome o (λ k. k < at + 1 + length xs)
    → IfSome (if b then Some at else o) (λ k. k < at + length (x ∷ xs))
found_next true at x xs o later = omega arith
found_next false at x xs None later = tt
found_next false at x xs (Some k) later = omega (arith, later)

found_below : {X : Type 0} (p : X → Bool) (at : ℕ) (xs : List X) → IfSome (position_from p at xs) (λ k. k < at + length xs)
found_below p at [] = tt
found_below p at (x ∷ xs) = found_next (p x) at x xs (position_from p (at + 1) xs) (found_below p (at + 1) xs)

pub global_below : (m : ModuleShape) (name : List ℕ) (bound : ℕ) → length m.globals ≤ bound → IfSome (global_of m name) (λ g. g < bound)
global_below m name bound le = below (global_of m name) (found_below (λ g. bytes_eq g.name name) 0 m.globals)
  where
    below : (o : Option ℕ) → IfSome o (λ k. k < 0 + length m.globals) → IfSome o (λ k. k < bound)
    below None h = tt
    below (Some k) h = omega (arith, h)
