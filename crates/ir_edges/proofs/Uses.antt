-- The values among the names that a part of a module uses.
use Rattle.std.proofs.Common.{◌≡◌, ◌↔◌, ℕ, List, [], ◌∷◌, ◌++◌, Option, Some, None, Contains, zero, suc, arith, refl, sym, ◌∙◌, ap, subst, flat_map, filter_map}
use Rattle.std.proofs.lemmas.List.Elements.{filter_map-append, Contains-append_right}
use Rattle.std.proofs.lemmas.List.Concat.{flat_map-cons}
use Rattle.ir_tree.specs.Shape.{TyShape, TyShapes, integer, pointer, void, array, structure, named, no_types, types, ConstShape, number, boolean, null, undef, poison, zero_value, text, elements, fields, global, address, TypedShape, typed, TypedShapes, no_values, values, ValShape, local, fixed, TyValShape, PhiInShape, CaseShape, BodyShape, phi, binary, icmp, select, convert, freeze, alloca, load, store, get_element, call, jump, branch, switch, return_void, return_value, unreachable}
use Rattle.ir_rules.specs.Uses.{Use, as_type, as_global, as_callee, as_value, as_block, ty_uses, row_uses, const_uses, typed_uses, values_uses, val_uses, ty_val_uses, callee_uses, input_uses, case_uses, body_uses}
use Rattle.ir_edges.specs.Locals.{val_names, ty_val_names, input_names, operand_names}

-- the name of a value that is used
abbrev value_name : Use → Option (List ℕ)
value_name (as_type name) = None
value_name (as_global name) = None
value_name (as_callee name) = None
value_name (as_value name) = Some name
value_name (as_block name) = None

-- the names of values among names that are used
abbrev named_in : List Use → List (List ℕ)
named_in uses = filter_map value_name uses

both : (xs ys : List Use) (es bs : List (List ℕ)) → named_in xs ≡ es → named_in ys ≡ bs → named_in (xs ++ ys) ≡ es ++ bs
both xs ys es bs one other = filter_map-append value_name xs ys ∙ ap (λ z. z ++ named_in ys) one ∙ ap (λ z. es ++ z) other

-- what has none before leaves what comes behind
behind : (xs ys : List Use) (bs : List (List ℕ)) → named_in xs ≡ [] → named_in ys ≡ bs → named_in (xs ++ ys) ≡ bs
behind xs ys bs none other = both xs ys [] bs none other

-- a type uses no value
mutual
  unfolding ty_uses

  ty_none : (t : TyShape) → named_in (ty_uses t) ≡ []
  ty_none (integer bits) = refl
  ty_none pointer = refl
  ty_none void = refl
  ty_none (array count t) = ty_none t
  ty_none (structure row packed) = row_none row
  ty_none (named name) = refl

  row_none : (row : TyShapes) → named_in (row_uses row) ≡ []
  row_none no_types = refl
  row_none (types t row) = behind (ty_uses t) (row_uses row) [] (ty_none t) (row_none row)

-- a constant uses none
mutual
  unfolding const_uses

  const_none : (c : ConstShape) → named_in (const_uses c) ≡ []
  const_none (number value) = refl
  const_none (boolean value) = refl
  const_none null = refl
  const_none undef = refl
  const_none poison = refl
  const_none zero_value = refl
  const_none (text bytes) = refl
  const_none (elements vs) = values_none vs
  const_none (fields vs packed) = values_none vs
  const_none (global name) = refl
  const_none (address inbounds t base indices) =
      behind (ty_uses t ++ typed_uses base) (values_uses indices) [] (behind (ty_uses t) (typed_uses base) [] (ty_none t) (typed_none base))
      (values_none indices)

  typed_none : (v : TypedShape) → named_in (typed_uses v) ≡ []
  typed_none (typed t c) = behind (ty_uses t) (const_uses c) [] (ty_none t) (const_none c)

  values_none : (vs : TypedShapes) → named_in (values_uses vs) ≡ []
  values_none no_values = refl
  values_none (values v vs) = behind (typed_uses v) (values_uses vs) [] (typed_none v) (values_none vs)

val_named : (v : ValShape) → named_in (val_uses v) ≡ val_names v
val_named (local name) = refl
val_named (fixed c) = const_none c

callee_named : (v : ValShape) → named_in (callee_uses v) ≡ val_names v
unfolding const_uses
callee_named (local name) = refl
callee_named (fixed (number value)) = refl
callee_named (fixed (boolean value)) = refl
callee_named (fixed null) = refl
callee_named (fixed undef) = refl
callee_named (fixed poison) = refl
callee_named (fixed zero_value) = refl
callee_named (fixed (text bytes)) = refl
callee_named (fixed (elements vs)) = const_none (elements vs)
callee_named (fixed (fields vs packed)) = const_none (fields vs packed)
callee_named (fixed (global name)) = refl
callee_named (fixed (address inbounds t base indices)) = const_none (address inbounds t base indices)

ty_val_named : (x : TyValShape) → named_in (ty_val_uses x) ≡ val_names x.val
ty_val_named x = behind (ty_uses x.ty) (val_uses x.val) (val_names x.val) (ty_none x.ty) (val_named x.val)

ty_vals_named : (xs : List TyValShape) → named_in (flat_map ty_val_uses xs) ≡ ty_val_names xs
ty_vals_named [] = refl
ty_vals_named (x ∷ xs) =
    ap named_in (flat_map-cons ty_val_uses x xs)
    ∙ both (ty_val_uses x) (flat_map ty_val_uses xs) (val_names x.val) (ty_val_names xs) (ty_val_named x) (ty_vals_named xs)

append_nil : (es : List (List ℕ)) → es ++ [] ≡ es
append_nil [] = refl
append_nil (a ∷ es) = ap (λ z. a ∷ z) (append_nil es)

-- a value, and what has none behind it
alone : (xs ys : List Use) (es : List (List ℕ)) → named_in xs ≡ es → named_in ys ≡ [] → named_in (xs ++ ys) ≡ es
alone xs ys es one none = both xs ys es [] one none ∙ append_nil es

input_named : (x : PhiInShape) → named_in (input_uses x) ≡ val_names x.val
input_named x = alone (val_uses x.val) (as_block x.from ∷ []) (val_names x.val) (val_named x.val) refl

inputs_named : (xs : List PhiInShape) → named_in (flat_map input_uses xs) ≡ input_names xs
inputs_named [] = refl
inputs_named (x ∷ xs) =
    ap named_in (flat_map-cons input_uses x xs)
    ∙ both (input_uses x) (flat_map input_uses xs) (val_names x.val) (input_names xs) (input_named x) (inputs_named xs)

case_none : (x : CaseShape) → named_in (case_uses x) ≡ []
case_none x = behind (ty_uses x.ty) (as_block x.to ∷ []) [] (ty_none x.ty) refl

cases_none : (xs : List CaseShape) → named_in (flat_map case_uses xs) ≡ []
cases_none [] = refl
cases_none (x ∷ xs) = ap named_in (flat_map-cons case_uses x xs) ∙ behind (case_uses x) (flat_map case_uses xs) [] (case_none x) (cases_none xs)

two_named : (t : TyShape) (left right : ValShape) → named_in (ty_uses t ++ val_uses left ++ val_uses right) ≡ val_names left ++ val_names right
two_named t left right =
    both (ty_uses t ++ val_uses left) (val_uses right) (val_names left) (val_names right)
    (behind (ty_uses t) (val_uses left) (val_names left) (ty_none t) (val_named left)) (val_named right)

-- the names of the values that an instruction uses are those of its operands
body_named : (body : BodyShape) → named_in (body_uses body) ≡ operand_names body
body_named (phi ty inputs) = behind (ty_uses ty) (flat_map input_uses inputs) (input_names inputs) (ty_none ty) (inputs_named inputs)
body_named (binary operation flags ty left right) = two_named ty left right
body_named (icmp predicate ty left right) = two_named ty left right
body_named (select condition met unmet) =
    both (ty_val_uses condition ++ ty_val_uses met) (ty_val_uses unmet) (val_names condition.val ++ val_names met.val) (val_names unmet.val)
    (both (ty_val_uses condition) (ty_val_uses met) (val_names condition.val) (val_names met.val) (ty_val_named condition) (ty_val_named met))
    (ty_val_named unmet)
body_named (convert conversion ty val to) =
    alone (ty_uses ty ++ val_uses val) (ty_uses to) (val_names val) (behind (ty_uses ty) (val_uses val) (val_names val) (ty_none ty) (val_named val))
    (ty_none to)
body_named (freeze ty val) = behind (ty_uses ty) (val_uses val) (val_names val) (ty_none ty) (val_named val)
body_named (alloca ty count) = ty_none ty
body_named (load ty at) = behind (ty_uses ty) (ty_val_uses at) (val_names at.val) (ty_none ty) (ty_val_named at)
body_named (store value at) = both (ty_val_uses value) (ty_val_uses at) (val_names value.val) (val_names at.val) (ty_val_named value) (ty_val_named at)
body_named (get_element inbounds ty base indices) =
    both (ty_uses ty ++ ty_val_uses base) (flat_map ty_val_uses indices) (val_names base.val) (ty_val_names indices)
    (behind (ty_uses ty) (ty_val_uses base) (val_names base.val) (ty_none ty) (ty_val_named base)) (ty_vals_named indices)
body_named (call ret callee arguments) =
    both (ty_uses ret ++ callee_uses callee) (flat_map ty_val_uses arguments) (val_names callee) (ty_val_names arguments)
    (behind (ty_uses ret) (callee_uses callee) (val_names callee) (ty_none ret) (callee_named callee)) (ty_vals_named arguments)
body_named (jump to) = refl
body_named (branch condition met unmet) =
    alone (ty_val_uses condition) (as_block met ∷ as_block unmet ∷ []) (val_names condition.val) (ty_val_named condition) refl
body_named (switch value otherwise cases) =
    alone (ty_val_uses value) (as_block otherwise ∷ flat_map case_uses cases) (val_names value.val) (ty_val_named value) (cases_none cases)
body_named return_void = refl
body_named (return_value value) = ty_val_named value
body_named unreachable = refl

-- a value is used just where its name is among those
named_used : (uses : List Use) (name : List ℕ) → Contains (named_in uses) name → Contains uses (as_value name)
named_used [] name (k, within, is) = absurd (omega arith)
named_used (as_type other ∷ uses) name there = Contains-append_right (as_type other ∷ []) uses (as_value name) (named_used uses name there)
named_used (as_global other ∷ uses) name there = Contains-append_right (as_global other ∷ []) uses (as_value name) (named_used uses name there)
named_used (as_callee other ∷ uses) name there = Contains-append_right (as_callee other ∷ []) uses (as_value name) (named_used uses name there)
named_used (as_block other ∷ uses) name there = Contains-append_right (as_block other ∷ []) uses (as_value name) (named_used uses name there)
named_used (as_value other ∷ uses) name (zero, within, is) = (0, omega arith, ap as_value is)
named_used (as_value other ∷ uses) name (suc k, within, is) =
    Contains-append_right (as_value other ∷ []) uses (as_value name) (named_used uses name (k, omega arith, is))

value_is : (other name : List ℕ) → as_value other ≡ as_value name → other ≡ name
value_is other name e = cc

-- a value that is used has its name among those
used_named : (uses : List Use) (name : List ℕ) → Contains uses (as_value name) → Contains (named_in uses) name
used_named [] name (k, within, is) = absurd (omega arith)
used_named (as_value other ∷ uses) name (zero, within, is) = (0, omega arith, value_is other name is)
used_named (as_value other ∷ uses) name (suc k, within, is) =
    Contains-append_right (other ∷ []) (named_in uses) name (used_named uses name (k, omega arith, is))
used_named (as_type other ∷ uses) name (zero, within, is) = cc
used_named (as_type other ∷ uses) name (suc k, within, is) = used_named uses name (k, omega arith, is)
used_named (as_global other ∷ uses) name (zero, within, is) = cc
used_named (as_global other ∷ uses) name (suc k, within, is) = used_named uses name (k, omega arith, is)
used_named (as_callee other ∷ uses) name (zero, within, is) = cc
used_named (as_callee other ∷ uses) name (suc k, within, is) = used_named uses name (k, omega arith, is)
used_named (as_block other ∷ uses) name (zero, within, is) = cc
used_named (as_block other ∷ uses) name (suc k, within, is) = used_named uses name (k, omega arith, is)

-- the operands of an instruction that are values are those that it uses
pub used_operands : (body : BodyShape) (name : List ℕ) → Contains (operand_names body) name ↔ Contains (body_uses body) (as_value name)
used_operands body name = (
  (λ there. named_used (body_uses body) name (subst (λ z. Contains z name) (sym (body_named body)) there)),
  (λ used. subst (λ z. Contains z name) (body_named body) (used_named (body_uses body) name used)),
)
