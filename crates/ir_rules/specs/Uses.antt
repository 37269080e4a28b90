-- Which names each part of a module uses, and as what.
use Rattle.std.specs.Prelude.{ℕ, List, [], ◌∷◌, ◌++◌}
use Rattle.std.specs.List.{flat_map}
use Rattle.ir_tree.specs.Shape.{TyShape, TyShapes, integer, pointer, void, array, structure, named, no_types, types, ConstShape, number, boolean, null, undef, poison, zero_value, text, elements, fields, global, address, TypedShape, typed, TypedShapes, no_values, values, ValShape, local, fixed, TyValShape, PhiInShape, CaseShape, BodyShape, phi, binary, icmp, select, convert, freeze, alloca, load, store, get_element, call, jump, branch, switch, return_void, return_value, unreachable, FunctionShape, GlobalShape, DeclareShape}

-- a name that is used: as a named type, as the address of a global, as what is called, as a value, as a block
pub data Use : Type 0 where
  as_type : (name : List ℕ) → Use
  as_global : (name : List ℕ) → Use
  as_callee : (name : List ℕ) → Use
  as_value : (name : List ℕ) → Use
  as_block : (name : List ℕ) → Use

unfoldable mutual
  pub ty_uses : TyShape → List Use
  ty_uses (integer bits) = []
  ty_uses pointer = []
  ty_uses void = []
  ty_uses (array count t) = ty_uses t
  ty_uses (structure row packed) = row_uses row
  ty_uses (named name) = as_type name ∷ []

  pub row_uses : TyShapes → List Use
  row_uses no_types = []
  row_uses (types t row) = ty_uses t ++ row_uses row

unfoldable mutual
  pub const_uses : ConstShape → List Use
  const_uses (number value) = []
  const_uses (boolean value) = []
  const_uses null = []
  const_uses undef = []
  const_uses poison = []
  const_uses zero_value = []
  const_uses (text bytes) = []
  const_uses (elements vs) = values_uses vs
  const_uses (fields vs packed) = values_uses vs
  const_uses (global name) = as_global name ∷ []
  const_uses (address inbounds t base indices) = ty_uses t ++ typed_uses base ++ values_uses indices

  pub typed_uses : TypedShape → List Use
  typed_uses (typed t c) = ty_uses t ++ const_uses c

  pub values_uses : TypedShapes → List Use
  values_uses no_values = []
  values_uses (values v vs) = typed_uses v ++ values_uses vs

-- the names that an operand uses
abbrev pub val_uses : ValShape → List Use
val_uses (local name) = as_value name ∷ []
val_uses (fixed c) = const_uses c

-- those of an operand with its type
abbrev pub ty_val_uses : TyValShape → List Use
ty_val_uses x = ty_uses x.ty ++ val_uses x.val

-- a global that is called; what is no global is an operand like others
abbrev pub callee_uses : ValShape → List Use
callee_uses (local name) = as_value name ∷ []
callee_uses (fixed (global name)) = as_callee name ∷ []
callee_uses (fixed c) = const_uses c

-- those of what a phi takes
abbrev pub input_uses : PhiInShape → List Use
input_uses x = val_uses x.val ++ as_block x.from ∷ []

-- those of a case of a switch
abbrev pub case_uses : CaseShape → List Use
case_uses x = ty_uses x.ty ++ as_block x.to ∷ []

-- those of an instruction, a line for each
abbrev pub body_uses : BodyShape → List Use
body_uses (phi ty inputs) = ty_uses ty ++ flat_map input_uses inputs
body_uses (binary operation flags ty left right) = ty_uses ty ++ val_uses left ++ val_uses right
body_uses (icmp predicate ty left right) = ty_uses ty ++ val_uses left ++ val_uses right
body_uses (select condition met unmet) = ty_val_uses condition ++ ty_val_uses met ++ ty_val_uses unmet
body_uses (convert conversion ty val to) = ty_uses ty ++ val_uses val ++ ty_uses to
body_uses (freeze ty val) = ty_uses ty ++ val_uses val
body_uses (alloca ty count) = ty_uses ty
body_uses (load ty at) = ty_uses ty ++ ty_val_uses at
body_uses (store value at) = ty_val_uses value ++ ty_val_uses at
body_uses (get_element inbounds ty base indices) = ty_uses ty ++ ty_val_uses base ++ flat_map ty_val_uses indices
body_uses (call ret callee arguments) = ty_uses ret ++ callee_uses callee ++ flat_map ty_val_uses arguments
body_uses (jump to) = as_block to ∷ []
body_uses (branch condition met unmet) = ty_val_uses condition ++ as_block met ∷ as_block unmet ∷ []
body_uses (switch value otherwise cases) = ty_val_uses value ++ as_block otherwise ∷ flat_map case_uses cases
body_uses return_void = []
body_uses (return_value value) = ty_val_uses value
body_uses unreachable = []

-- those of a global
abbrev pub global_uses : GlobalShape → List Use
global_uses x = ty_uses x.ty ++ const_uses x.init

-- those of a declared function
abbrev pub declare_uses : DeclareShape → List Use
declare_uses x = ty_uses x.ret ++ flat_map ty_uses x.params

-- what the head of a function uses; its instructions use names each at its own place
abbrev pub head_uses : FunctionShape → List Use
head_uses f = ty_uses f.ret ++ flat_map (λ p. ty_uses p.ty) f.params
