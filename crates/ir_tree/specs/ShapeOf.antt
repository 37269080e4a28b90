-- The shape of each part of a module under a table of names. A number that isn't in the table stands for the empty name.
use Rattle.std.specs.Prelude.{◌≡◌, ℕ, List, map, option_map}
use Rattle.ir_tree.specs.NameTable.{text_of}
use Rattle.ir_tree.specs.Shape.{TyShape, integer, pointer, void, array, structure, named, ty_row, ConstShape, number, boolean, null, undef, poison, zero_value, text, elements, fields, global, address, TypedShape, typed, typed_row, ValShape, local, fixed, TyValShape, PhiInShape, CaseShape, BodyShape, phi, binary, icmp, select, convert, freeze, alloca, load, store, get_element, call, jump, branch, switch, return_void, return_value, unreachable, InstShape, BlockShape, ParamShape, FunctionShape, GlobalShape, DeclareShape, NamedTyShape, ModuleShape}
use Rattle.ir_tree.specs.declared.types.Ty.{Ty}
use Rattle.ir_tree.specs.declared.types.Ty.TheOpen as ty
use Rattle.ir_tree.specs.declared.types.Ty.TheFolds.{fold-Ty}
use Rattle.ir_tree.specs.declared.types.Const.{Const}
use Rattle.ir_tree.specs.declared.types.Const.TheOpen as constant
use Rattle.ir_tree.specs.declared.types.Const.TheFolds.{fold-Const, fold-Typed}
use Rattle.ir_tree.specs.declared.types.Typed.{Typed}
use Rattle.ir_tree.specs.declared.names.NameId.{NameId}
use Rattle.ir_tree.specs.declared.module.Val.{Val}
use Rattle.ir_tree.specs.declared.module.TyVal.{TyVal}
use Rattle.ir_tree.specs.declared.module.PhiIn.{PhiIn}
use Rattle.ir_tree.specs.declared.module.Case.{Case}
use Rattle.ir_tree.specs.declared.module.Body.{Body}
use Rattle.ir_tree.specs.declared.module.Inst.{Inst}
use Rattle.ir_tree.specs.declared.module.Block.{Block}
use Rattle.ir_tree.specs.declared.module.Param.{Param}
use Rattle.ir_tree.specs.declared.module.Function.{Function}
use Rattle.ir_tree.specs.declared.module.GlobalItem.{GlobalItem}
use Rattle.ir_tree.specs.declared.module.Declare.{Declare}
use Rattle.ir_tree.specs.declared.module.NamedTy.{NamedTy}
use Rattle.ir_tree.specs.declared.module.Module.{Module}
use Rattle.ir_tree.specs.declared.module.Val.TheVariants.{Local, Fixed}
use Rattle.ir_tree.specs.declared.module.Body.TheVariants as body

abbrev pub ty_step : List (List ℕ) → ty.Ty-F TyShape → TyShape
ty_step names (ty.Int bits) = integer bits
ty_step names ty.Ptr = pointer
ty_step names ty.Void = void
ty_step names (ty.Array count element) = array count element.value
ty_step names (ty.Struct v packed) = structure (ty_row v.items) packed
ty_step names (ty.Named id) = named (text_of names id.0)

-- a type's shape
abbrev pub ty_shape : List (List ℕ) → Ty → TyShape
ty_shape names = fold-Ty TyShape (ty_step names)

abbrev pub const_step : List (List ℕ) → constant.Const-F ConstShape TypedShape → ConstShape
const_step names (constant.Int value) = number value
const_step names (constant.Bool value) = boolean value
const_step names constant.Null = null
const_step names constant.Undef = undef
const_step names constant.Poison = poison
const_step names constant.Zero = zero_value
const_step names (constant.Text v) = text v.items
const_step names (constant.Array v) = elements (typed_row v.items)
const_step names (constant.Struct v packed) = fields (typed_row v.items) packed
const_step names (constant.Global id) = global (text_of names id.0)
const_step names (constant.Gep inbounds t base v) = address inbounds (ty_shape names t) base.value (typed_row v.items)

abbrev pub typed_step : List (List ℕ) → constant.Typed-F ConstShape TypedShape → TypedShape
typed_step names v = typed (ty_shape names v.ty) v.value

-- a constant's shape
abbrev pub const_shape : List (List ℕ) → Const → ConstShape
const_shape names = fold-Const ConstShape TypedShape (const_step names) (typed_step names)

-- the shape of a constant with its type
abbrev pub typed_shape : List (List ℕ) → Typed → TypedShape
typed_shape names = fold-Typed ConstShape TypedShape (const_step names) (typed_step names)

-- the name of a number
abbrev pub name_shape : List (List ℕ) → NameId → List ℕ
name_shape names id = text_of names id.0

abbrev pub val_shape : List (List ℕ) → Val → ValShape
val_shape names (Local id) = local (name_shape names id)
val_shape names (Fixed c) = fixed (const_shape names c)

abbrev pub ty_val_shape : List (List ℕ) → TyVal → TyValShape
ty_val_shape names x = record { ty = ty_shape names x.ty; val = val_shape names x.val }

abbrev pub phi_in_shape : List (List ℕ) → PhiIn → PhiInShape
phi_in_shape names x = record { val = val_shape names x.val; from = name_shape names x.from }

abbrev pub case_shape : List (List ℕ) → Case → CaseShape
case_shape names x = record { ty = ty_shape names x.ty; value = x.value; to = name_shape names x.to }

abbrev pub body_shape : List (List ℕ) → Body → BodyShape
body_shape names (body.Phi ty v) = phi (ty_shape names ty) (map (phi_in_shape names) v.items)
body_shape names (body.Binary op flags ty x y) = binary op flags (ty_shape names ty) (val_shape names x) (val_shape names y)
body_shape names (body.Icmp pred ty x y) = icmp pred (ty_shape names ty) (val_shape names x) (val_shape names y)
body_shape names (body.Select c x y) = select (ty_val_shape names c) (ty_val_shape names x) (ty_val_shape names y)
body_shape names (body.Convert conv ty x to) = convert conv (ty_shape names ty) (val_shape names x) (ty_shape names to)
body_shape names (body.Freeze ty x) = freeze (ty_shape names ty) (val_shape names x)
body_shape names (body.Alloca ty n) = alloca (ty_shape names ty) n
body_shape names (body.Load ty x) = load (ty_shape names ty) (ty_val_shape names x)
body_shape names (body.Store x y) = store (ty_val_shape names x) (ty_val_shape names y)
body_shape names (body.Gep inbounds ty x v) = get_element inbounds (ty_shape names ty) (ty_val_shape names x) (map (ty_val_shape names) v.items)
body_shape names (body.Call ty x v) = call (ty_shape names ty) (val_shape names x) (map (ty_val_shape names) v.items)
body_shape names (body.Jump to) = jump (name_shape names to)
body_shape names (body.Branch c x y) = branch (ty_val_shape names c) (name_shape names x) (name_shape names y)
body_shape names (body.Switch x to v) = switch (ty_val_shape names x) (name_shape names to) (map (case_shape names) v.items)
body_shape names body.RetVoid = return_void
body_shape names (body.Ret x) = return_value (ty_val_shape names x)
body_shape names body.Unreachable = unreachable

abbrev pub inst_shape : List (List ℕ) → Inst → InstShape
inst_shape names x = record { result = option_map (name_shape names) x.result; body = body_shape names x.body }

abbrev pub block_shape : List (List ℕ) → Block → BlockShape
block_shape names x = record { name = name_shape names x.name; insts = map (inst_shape names) x.insts.items }

abbrev pub param_shape : List (List ℕ) → Param → ParamShape
param_shape names x = record { ty = ty_shape names x.ty; name = option_map (name_shape names) x.name }

abbrev pub function_shape : List (List ℕ) → Function → FunctionShape
function_shape names x = record {
  name = name_shape names x.name;
  ret = ty_shape names x.ret;
  params = map (param_shape names) x.params.items;
  blocks = map (block_shape names) x.blocks.items;
}

abbrev pub global_shape : List (List ℕ) → GlobalItem → GlobalShape
global_shape names x = record {
  name = name_shape names x.name;
  constant = x.constant;
  ty = ty_shape names x.ty;
  init = const_shape names x.init;
}

abbrev pub declare_shape : List (List ℕ) → Declare → DeclareShape
declare_shape names x = record {
  name = name_shape names x.name;
  ret = ty_shape names x.ret;
  params = map (ty_shape names) x.params.items;
}

abbrev pub named_ty_shape : List (List ℕ) → NamedTy → NamedTyShape
named_ty_shape names x = record { name = name_shape names x.name; ty = ty_shape names x.ty }

-- a module's shape under another table of names than its own
abbrev pub shape_under : List (List ℕ) → Module → ModuleShape
shape_under names m = record {
  types = map (named_ty_shape names) m.types.items;
  globals = map (global_shape names) m.globals.items;
  declares = map (declare_shape names) m.declares.items;
  functions = map (function_shape names) m.functions.items;
}

-- a module's shape
abbrev pub module_shape : Module → ModuleShape
module_shape m = shape_under m.names m

-- two modules are equal where their shapes are
abbrev pub SameModule : Module → Module → Type 0
SameModule m n = module_shape m ≡ module_shape n
