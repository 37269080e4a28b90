-- That each number of a name is below the count of names.
use Rattle.std.specs.Prelude.{ℕ, Bool, true, ◌&&◌, nat_lt, length, Option, None, Some}
use Rattle.std.specs.List.{list_all}
use Rattle.ir_tree.specs.declared.types.Ty.{Ty}
use Rattle.ir_tree.specs.declared.types.Ty.TheOpen as ty
use Rattle.ir_tree.specs.declared.types.Ty.TheFolds.{fold-Ty}
use Rattle.ir_tree.specs.declared.types.Const.{Const}
use Rattle.ir_tree.specs.declared.types.Const.TheOpen as constant
use Rattle.ir_tree.specs.declared.types.Const.TheFolds.{fold-Const, fold-Typed}
use Rattle.ir_tree.specs.declared.types.Typed.{Typed}
use Rattle.ir_tree.specs.declared.names.NameId.{NameId}
use Rattle.ir_tree.specs.declared.module.Val.{Val}
use Rattle.ir_tree.specs.declared.module.TyVal.{TyVal}
use Rattle.ir_tree.specs.declared.module.PhiIn.{PhiIn}
use Rattle.ir_tree.specs.declared.module.Case.{Case}
use Rattle.ir_tree.specs.declared.module.Body.{Body}
use Rattle.ir_tree.specs.declared.module.Inst.{Inst}
use Rattle.ir_tree.specs.declared.module.Block.{Block}
use Rattle.ir_tree.specs.declared.module.Param.{Param}
use Rattle.ir_tree.specs.declared.module.Function.{Function}
use Rattle.ir_tree.specs.declared.module.GlobalItem.{GlobalItem}
use Rattle.ir_tree.specs.declared.module.Declare.{Declare}
use Rattle.ir_tree.specs.declared.module.NamedTy.{NamedTy}
use Rattle.ir_tree.specs.declared.module.Module.{Module}
use Rattle.ir_tree.specs.declared.module.Val.TheVariants.{Local, Fixed}
use Rattle.ir_tree.specs.declared.module.Body.TheVariants as body

abbrev pub ty_known_step : ℕ → ty.Ty-F Bool → Bool
ty_known_step count (ty.Array n element) = element.value
ty_known_step count (ty.Struct v packed) = list_all (λ b. b) v.items
ty_known_step count (ty.Named id) = nat_lt id.0 count
ty_known_step count _ = true

-- the names of a type are below the count
abbrev pub ty_known : ℕ → Ty → Bool
ty_known count = fold-Ty Bool (ty_known_step count)

abbrev pub const_known_step : ℕ → constant.Const-F Bool Bool → Bool
const_known_step count (constant.Array v) = list_all (λ b. b) v.items
const_known_step count (constant.Struct v packed) = list_all (λ b. b) v.items
const_known_step count (constant.Global id) = nat_lt id.0 count
const_known_step count (constant.Gep inbounds t base v) = ty_known count t && base.value && list_all (λ b. b) v.items
const_known_step count _ = true

abbrev pub typed_known_step : ℕ → constant.Typed-F Bool Bool → Bool
typed_known_step count v = ty_known count v.ty && v.value

-- the names of a constant are below the count
abbrev pub const_known : ℕ → Const → Bool
const_known count = fold-Const Bool Bool (const_known_step count) (typed_known_step count)

-- the names of a constant and of its type are below the count
abbrev pub typed_known : ℕ → Typed → Bool
typed_known count = fold-Typed Bool Bool (const_known_step count) (typed_known_step count)

abbrev pub name_known : ℕ → NameId → Bool
name_known count id = nat_lt id.0 count

abbrev pub result_known : ℕ → Option NameId → Bool
result_known count None = true
result_known count (Some id) = name_known count id

abbrev pub val_known : ℕ → Val → Bool
val_known count (Local id) = name_known count id
val_known count (Fixed c) = const_known count c

abbrev pub ty_val_known : ℕ → TyVal → Bool
ty_val_known count x = ty_known count x.ty && val_known count x.val

abbrev pub phi_in_known : ℕ → PhiIn → Bool
phi_in_known count x = val_known count x.val && name_known count x.from

abbrev pub case_known : ℕ → Case → Bool
case_known count x = ty_known count x.ty && name_known count x.to

abbrev pub body_known : ℕ → Body → Bool
body_known count (body.Phi ty v) = ty_known count ty && list_all (phi_in_known count) v.items
body_known count (body.Binary op flags ty x y) = ty_known count ty && val_known count x && val_known count y
body_known count (body.Icmp pred ty x y) = ty_known count ty && val_known count x && val_known count y
body_known count (body.Select c x y) = ty_val_known count c && ty_val_known count x && ty_val_known count y
body_known count (body.Convert conv ty x to) = ty_known count ty && val_known count x && ty_known count to
body_known count (body.Freeze ty x) = ty_known count ty && val_known count x
body_known count (body.Alloca ty n) = ty_known count ty
body_known count (body.Load ty x) = ty_known count ty && ty_val_known count x
body_known count (body.Store x y) = ty_val_known count x && ty_val_known count y
body_known count (body.Gep inbounds ty x v) = ty_known count ty && ty_val_known count x && list_all (ty_val_known count) v.items
body_known count (body.Call ty x v) = ty_known count ty && val_known count x && list_all (ty_val_known count) v.items
body_known count (body.Jump to) = name_known count to
body_known count (body.Branch c x y) = ty_val_known count c && name_known count x && name_known count y
body_known count (body.Switch x to v) = ty_val_known count x && name_known count to && list_all (case_known count) v.items
body_known count body.RetVoid = true
body_known count (body.Ret x) = ty_val_known count x
body_known count body.Unreachable = true

abbrev pub inst_known : ℕ → Inst → Bool
inst_known count x = result_known count x.result && body_known count x.body

abbrev pub block_known : ℕ → Block → Bool
block_known count x = name_known count x.name && list_all (inst_known count) x.insts.items

abbrev pub param_known : ℕ → Param → Bool
param_known count x = ty_known count x.ty && result_known count x.name

abbrev pub function_known : ℕ → Function → Bool
function_known count x =
    name_known count x.name && ty_known count x.ret && list_all (param_known count) x.params.items && list_all (block_known count) x.blocks.items

abbrev pub global_known : ℕ → GlobalItem → Bool
global_known count x = name_known count x.name && ty_known count x.ty && const_known count x.init

abbrev pub declare_known : ℕ → Declare → Bool
declare_known count x = name_known count x.name && ty_known count x.ret && list_all (ty_known count) x.params.items

abbrev pub named_ty_known : ℕ → NamedTy → Bool
named_ty_known count x = name_known count x.name && ty_known count x.ty

abbrev pub items_known : ℕ → Module → Bool
items_known count m =
    list_all (named_ty_known count) m.types.items && list_all (global_known count) m.globals.items
    && list_all (declare_known count) m.declares.items && list_all (function_known count) m.functions.items

-- each name's number in a module is below the count of its names
abbrev pub module_known : Module → Bool
module_known m = items_known (length m.names) m
