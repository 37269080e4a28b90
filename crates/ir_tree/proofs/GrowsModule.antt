-- A longer table of names keeps the shape of each part of a module, and what is known of it stays known.
use Rattle.std.proofs.Common.{◌≡◌, ℕ, ◌≤◌, true, List, ◌++◌, length, map, Option, None, Some, refl, ap, ltb-true}
use Rattle.std.specs.Prelude.{option_map}
use Rattle.ir_tree.specs.Shape.{local, fixed}
use Rattle.ir_tree.specs.ShapeOf.{ty_shape, const_shape, name_shape, val_shape, ty_val_shape, phi_in_shape, case_shape, body_shape, inst_shape, block_shape, param_shape, function_shape, global_shape, declare_shape, named_ty_shape, shape_under}
use Rattle.ir_tree.specs.Known.{ty_known, name_known, result_known, val_known, ty_val_known, phi_in_known, case_known, body_known, inst_known, block_known, param_known, function_known, global_known, declare_known, named_ty_known, items_known}
use Rattle.ir_tree.specs.declared.names.NameId.{NameId}
use Rattle.ir_tree.specs.declared.module.Val.{Val}
use Rattle.ir_tree.specs.declared.module.TyVal.{TyVal}
use Rattle.ir_tree.specs.declared.module.PhiIn.{PhiIn}
use Rattle.ir_tree.specs.declared.module.Case.{Case}
use Rattle.ir_tree.specs.declared.module.Body.{Body}
use Rattle.ir_tree.specs.declared.module.Inst.{Inst}
use Rattle.ir_tree.specs.declared.module.Block.{Block}
use Rattle.ir_tree.specs.declared.module.Param.{Param}
use Rattle.ir_tree.specs.declared.module.Function.{Function}
use Rattle.ir_tree.specs.declared.module.GlobalItem.{GlobalItem}
use Rattle.ir_tree.specs.declared.module.Declare.{Declare}
use Rattle.ir_tree.specs.declared.module.NamedTy.{NamedTy}
use Rattle.ir_tree.specs.declared.module.Module.{Module}
use Rattle.ir_tree.specs.declared.module.Val.TheVariants.{Local, Fixed}
use Rattle.ir_tree.specs.declared.module.Body.TheVariants as body
use Rattle.ir_tree.proofs.Table.{text_of-append}
use Rattle.ir_tree.proofs.Grows.{and_left, and_right, and_both, below_more, map_where, list_all-weaker, ty_shape-append, ty_known-more}
use Rattle.ir_tree.proofs.GrowsConst.{const_shape-append, const_known-more}

pub name_shape-append : (names more : List (List ℕ)) (id : NameId) → name_known (length names) id ≡ true
    → name_shape (names ++ more) id ≡ name_shape names id
name_shape-append names more id h = text_of-append names more id.0 (ltb-true id.0 (length names) h)

pub result_shape-append : (names more : List (List ℕ)) (o : Option NameId) → result_known (length names) o ≡ true
    → option_map (name_shape (names ++ more)) o ≡ option_map (name_shape names) o
result_shape-append names more None h = refl
result_shape-append names more (Some id) h = ap Some (name_shape-append names more id h)

pub val_shape-append : (names more : List (List ℕ)) (v : Val) → val_known (length names) v ≡ true
    → val_shape (names ++ more) v ≡ val_shape names v
val_shape-append names more (Local id) h = ap local (name_shape-append names more id h)
val_shape-append names more (Fixed c) h = ap fixed (const_shape-append names more c h)

pub name_known-more : (n m : ℕ) → n ≤ m → (id : NameId) → name_known n id ≡ true → name_known m id ≡ true
name_known-more n m le id h = below_more id.0 n m le h

pub result_known-more : (n m : ℕ) → n ≤ m → (o : Option NameId) → result_known n o ≡ true → result_known m o ≡ true
result_known-more n m le None h = refl
result_known-more n m le (Some id) h = below_more id.0 n m le h

pub val_known-more : (n m : ℕ) → n ≤ m → (v : Val) → val_known n v ≡ true → val_known m v ≡ true
val_known-more n m le (Local id) h = below_more id.0 n m le h
val_known-more n m le (Fixed c) h = const_known-more n m le c h

pub ty_val_shape-append : (names more : List (List ℕ)) (x : TyVal) → ty_val_known (length names) x ≡ true
    → ty_val_shape (names ++ more) x ≡ ty_val_shape names x
ty_val_shape-append names more x h =
    let part0 : ty_shape (names ++ more) x.ty ≡ ty_shape names x.ty = ty_shape-append names more x.ty (and_left _ _ h) in
    let part1 : val_shape (names ++ more) x.val ≡ val_shape names x.val = val_shape-append names more x.val (and_right _ _ h) in
    cc

pub ty_val_known-more : (n m : ℕ) → n ≤ m → (x : TyVal) → ty_val_known n x ≡ true → ty_val_known m x ≡ true
ty_val_known-more n m le x h = (and_both (ty_known-more n m le x.ty (and_left _ _ h)) (val_known-more n m le x.val (and_right _ _ h)))

pub phi_in_shape-append : (names more : List (List ℕ)) (x : PhiIn) → phi_in_known (length names) x ≡ true
    → phi_in_shape (names ++ more) x ≡ phi_in_shape names x
phi_in_shape-append names more x h =
    let part0 : val_shape (names ++ more) x.val ≡ val_shape names x.val = val_shape-append names more x.val (and_left _ _ h) in
    let part1 : name_shape (names ++ more) x.from ≡ name_shape names x.from = name_shape-append names more x.from (and_right _ _ h) in
    cc

pub phi_in_known-more : (n m : ℕ) → n ≤ m → (x : PhiIn) → phi_in_known n x ≡ true → phi_in_known m x ≡ true
phi_in_known-more n m le x h = (and_both (val_known-more n m le x.val (and_left _ _ h)) (name_known-more n m le x.from (and_right _ _ h)))

pub case_shape-append : (names more : List (List ℕ)) (x : Case) → case_known (length names) x ≡ true
    → case_shape (names ++ more) x ≡ case_shape names x
case_shape-append names more x h =
    let part0 : ty_shape (names ++ more) x.ty ≡ ty_shape names x.ty = ty_shape-append names more x.ty (and_left _ _ h) in
    let part1 : name_shape (names ++ more) x.to ≡ name_shape names x.to = name_shape-append names more x.to (and_right _ _ h) in
    cc

pub case_known-more : (n m : ℕ) → n ≤ m → (x : Case) → case_known n x ≡ true → case_known m x ≡ true
case_known-more n m le x h = (and_both (ty_known-more n m le x.ty (and_left _ _ h)) (name_known-more n m le x.to (and_right _ _ h)))

pub body_shape-append : (names more : List (List ℕ)) (b : Body) → body_known (length names) b ≡ true
    → body_shape (names ++ more) b ≡ body_shape names b
body_shape-append names more (body.Phi ty v) h =
    let part0 : ty_shape (names ++ more) ty ≡ ty_shape names ty = ty_shape-append names more ty (and_left _ _ h) in
    let part1 : map (phi_in_shape (names ++ more)) v.items ≡ map (phi_in_shape names) v.items = map_where (phi_in_shape (names ++ more)) (phi_in_shape names) (phi_in_known (length names)) (phi_in_shape-append names more) v.items (and_right _ _ h) in
    cc
body_shape-append names more (body.Binary op flags ty x y) h =
    let part0 : ty_shape (names ++ more) ty ≡ ty_shape names ty = ty_shape-append names more ty (and_left _ _ (and_left _ _ h)) in
    let part1 : val_shape (names ++ more) x ≡ val_shape names x = val_shape-append names more x (and_right _ _ (and_left _ _ h)) in
    let part2 : val_shape (names ++ more) y ≡ val_shape names y = val_shape-append names more y (and_right _ _ h) in
    cc
body_shape-append names more (body.Icmp pred ty x y) h =
    let part0 : ty_shape (names ++ more) ty ≡ ty_shape names ty = ty_shape-append names more ty (and_left _ _ (and_left _ _ h)) in
    let part1 : val_shape (names ++ more) x ≡ val_shape names x = val_shape-append names more x (and_right _ _ (and_left _ _ h)) in
    let part2 : val_shape (names ++ more) y ≡ val_shape names y = val_shape-append names more y (and_right _ _ h) in
    cc
body_shape-append names more (body.Select c x y) h =
    let part0 : ty_val_shape (names ++ more) c ≡ ty_val_shape names c = ty_val_shape-append names more c (and_left _ _ (and_left _ _ h)) in
    let part1 : ty_val_shape (names ++ more) x ≡ ty_val_shape names x = ty_val_shape-append names more x (and_right _ _ (and_left _ _ h)) in
    let part2 : ty_val_shape (names ++ more) y ≡ ty_val_shape names y = ty_val_shape-append names more y (and_right _ _ h) in
    cc
body_shape-append names more (body.Convert conv ty x to) h =
    let part0 : ty_shape (names ++ more) ty ≡ ty_shape names ty = ty_shape-append names more ty (and_left _ _ (and_left _ _ h)) in
    let part1 : val_shape (names ++ more) x ≡ val_shape names x = val_shape-append names more x (and_right _ _ (and_left _ _ h)) in
    let part2 : ty_shape (names ++ more) to ≡ ty_shape names to = ty_shape-append names more to (and_right _ _ h) in
    cc
body_shape-append names more (body.Freeze ty x) h =
    let part0 : ty_shape (names ++ more) ty ≡ ty_shape names ty = ty_shape-append names more ty (and_left _ _ h) in
    let part1 : val_shape (names ++ more) x ≡ val_shape names x = val_shape-append names more x (and_right _ _ h) in
    cc
body_shape-append names more (body.Alloca ty count) h =
    let part0 : ty_shape (names ++ more) ty ≡ ty_shape names ty = ty_shape-append names more ty h in
    cc
body_shape-append names more (body.Load ty x) h =
    let part0 : ty_shape (names ++ more) ty ≡ ty_shape names ty = ty_shape-append names more ty (and_left _ _ h) in
    let part1 : ty_val_shape (names ++ more) x ≡ ty_val_shape names x = ty_val_shape-append names more x (and_right _ _ h) in
    cc
body_shape-append names more (body.Store x y) h =
    let part0 : ty_val_shape (names ++ more) x ≡ ty_val_shape names x = ty_val_shape-append names more x (and_left _ _ h) in
    let part1 : ty_val_shape (names ++ more) y ≡ ty_val_shape names y = ty_val_shape-append names more y (and_right _ _ h) in
    cc
body_shape-append names more (body.Gep inbounds ty x v) h =
    let part0 : ty_shape (names ++ more) ty ≡ ty_shape names ty = ty_shape-append names more ty (and_left _ _ (and_left _ _ h)) in
    let part1 : ty_val_shape (names ++ more) x ≡ ty_val_shape names x = ty_val_shape-append names more x (and_right _ _ (and_left _ _ h)) in
    let part2 : map (ty_val_shape (names ++ more)) v.items ≡ map (ty_val_shape names) v.items = map_where (ty_val_shape (names ++ more)) (ty_val_shape names) (ty_val_known (length names)) (ty_val_shape-append names more) v.items (and_right _ _ h) in
    cc
body_shape-append names more (body.Call ty x v) h =
    let part0 : ty_shape (names ++ more) ty ≡ ty_shape names ty = ty_shape-append names more ty (and_left _ _ (and_left _ _ h)) in
    let part1 : val_shape (names ++ more) x ≡ val_shape names x = val_shape-append names more x (and_right _ _ (and_left _ _ h)) in
    let part2 : map (ty_val_shape (names ++ more)) v.items ≡ map (ty_val_shape names) v.items = map_where (ty_val_shape (names ++ more)) (ty_val_shape names) (ty_val_known (length names)) (ty_val_shape-append names more) v.items (and_right _ _ h) in
    cc
body_shape-append names more (body.Jump to) h =
    let part0 : name_shape (names ++ more) to ≡ name_shape names to = name_shape-append names more to h in
    cc
body_shape-append names more (body.Branch c x y) h =
    let part0 : ty_val_shape (names ++ more) c ≡ ty_val_shape names c = ty_val_shape-append names more c (and_left _ _ (and_left _ _ h)) in
    let part1 : name_shape (names ++ more) x ≡ name_shape names x = name_shape-append names more x (and_right _ _ (and_left _ _ h)) in
    let part2 : name_shape (names ++ more) y ≡ name_shape names y = name_shape-append names more y (and_right _ _ h) in
    cc
body_shape-append names more (body.Switch x to v) h =
    let part0 : ty_val_shape (names ++ more) x ≡ ty_val_shape names x = ty_val_shape-append names more x (and_left _ _ (and_left _ _ h)) in
    let part1 : name_shape (names ++ more) to ≡ name_shape names to = name_shape-append names more to (and_right _ _ (and_left _ _ h)) in
    let part2 : map (case_shape (names ++ more)) v.items ≡ map (case_shape names) v.items = map_where (case_shape (names ++ more)) (case_shape names) (case_known (length names)) (case_shape-append names more) v.items (and_right _ _ h) in
    cc
body_shape-append names more body.RetVoid h = refl
body_shape-append names more (body.Ret x) h =
    let part0 : ty_val_shape (names ++ more) x ≡ ty_val_shape names x = ty_val_shape-append names more x h in
    cc
body_shape-append names more body.Unreachable h = refl

pub body_known-more : (n m : ℕ) → n ≤ m → (b : Body) → body_known n b ≡ true → body_known m b ≡ true
body_known-more n m le (body.Phi ty v) h = (and_both (ty_known-more n m le ty (and_left _ _ h)) (list_all-weaker (phi_in_known n) (phi_in_known m) (phi_in_known-more n m le) v.items (and_right _ _ h)))
body_known-more n m le (body.Binary op flags ty x y) h = (and_both (and_both (ty_known-more n m le ty (and_left _ _ (and_left _ _ h))) (val_known-more n m le x (and_right _ _ (and_left _ _ h)))) (val_known-more n m le y (and_right _ _ h)))
body_known-more n m le (body.Icmp pred ty x y) h = (and_both (and_both (ty_known-more n m le ty (and_left _ _ (and_left _ _ h))) (val_known-more n m le x (and_right _ _ (and_left _ _ h)))) (val_known-more n m le y (and_right _ _ h)))
body_known-more n m le (body.Select c x y) h = (and_both (and_both (ty_val_known-more n m le c (and_left _ _ (and_left _ _ h))) (ty_val_known-more n m le x (and_right _ _ (and_left _ _ h)))) (ty_val_known-more n m le y (and_right _ _ h)))
body_known-more n m le (body.Convert conv ty x to) h = (and_both (and_both (ty_known-more n m le ty (and_left _ _ (and_left _ _ h))) (val_known-more n m le x (and_right _ _ (and_left _ _ h)))) (ty_known-more n m le to (and_right _ _ h)))
body_known-more n m le (body.Freeze ty x) h = (and_both (ty_known-more n m le ty (and_left _ _ h)) (val_known-more n m le x (and_right _ _ h)))
body_known-more n m le (body.Alloca ty count) h = (ty_known-more n m le ty h)
body_known-more n m le (body.Load ty x) h = (and_both (ty_known-more n m le ty (and_left _ _ h)) (ty_val_known-more n m le x (and_right _ _ h)))
body_known-more n m le (body.Store x y) h = (and_both (ty_val_known-more n m le x (and_left _ _ h)) (ty_val_known-more n m le y (and_right _ _ h)))
body_known-more n m le (body.Gep inbounds ty x v) h = (and_both (and_both (ty_known-more n m le ty (and_left _ _ (and_left _ _ h))) (ty_val_known-more n m le x (and_right _ _ (and_left _ _ h)))) (list_all-weaker (ty_val_known n) (ty_val_known m) (ty_val_known-more n m le) v.items (and_right _ _ h)))
body_known-more n m le (body.Call ty x v) h = (and_both (and_both (ty_known-more n m le ty (and_left _ _ (and_left _ _ h))) (val_known-more n m le x (and_right _ _ (and_left _ _ h)))) (list_all-weaker (ty_val_known n) (ty_val_known m) (ty_val_known-more n m le) v.items (and_right _ _ h)))
body_known-more n m le (body.Jump to) h = (name_known-more n m le to h)
body_known-more n m le (body.Branch c x y) h = (and_both (and_both (ty_val_known-more n m le c (and_left _ _ (and_left _ _ h))) (name_known-more n m le x (and_right _ _ (and_left _ _ h)))) (name_known-more n m le y (and_right _ _ h)))
body_known-more n m le (body.Switch x to v) h = (and_both (and_both (ty_val_known-more n m le x (and_left _ _ (and_left _ _ h))) (name_known-more n m le to (and_right _ _ (and_left _ _ h)))) (list_all-weaker (case_known n) (case_known m) (case_known-more n m le) v.items (and_right _ _ h)))
body_known-more n m le body.RetVoid h = refl
body_known-more n m le (body.Ret x) h = (ty_val_known-more n m le x h)
body_known-more n m le body.Unreachable h = refl

pub inst_shape-append : (names more : List (List ℕ)) (x : Inst) → inst_known (length names) x ≡ true
    → inst_shape (names ++ more) x ≡ inst_shape names x
inst_shape-append names more x h =
    let part0 : option_map (name_shape (names ++ more)) x.result ≡ option_map (name_shape names) x.result = result_shape-append names more x.result (and_left _ _ h) in
    let part1 : body_shape (names ++ more) x.body ≡ body_shape names x.body = body_shape-append names more x.body (and_right _ _ h) in
    cc

pub inst_known-more : (n m : ℕ) → n ≤ m → (x : Inst) → inst_known n x ≡ true → inst_known m x ≡ true
inst_known-more n m le x h = (and_both (result_known-more n m le x.result (and_left _ _ h)) (body_known-more n m le x.body (and_right _ _ h)))

pub block_shape-append : (names more : List (List ℕ)) (x : Block) → block_known (length names) x ≡ true
    → block_shape (names ++ more) x ≡ block_shape names x
block_shape-append names more x h =
    let part0 : name_shape (names ++ more) x.name ≡ name_shape names x.name = name_shape-append names more x.name (and_left _ _ h) in
    let part1 : map (inst_shape (names ++ more)) x.insts.items ≡ map (inst_shape names) x.insts.items = map_where (inst_shape (names ++ more)) (inst_shape names) (inst_known (length names)) (inst_shape-append names more) x.insts.items (and_right _ _ h) in
    cc

pub block_known-more : (n m : ℕ) → n ≤ m → (x : Block) → block_known n x ≡ true → block_known m x ≡ true
block_known-more n m le x h = (and_both (name_known-more n m le x.name (and_left _ _ h)) (list_all-weaker (inst_known n) (inst_known m) (inst_known-more n m le) x.insts.items (and_right _ _ h)))

pub param_shape-append : (names more : List (List ℕ)) (x : Param) → param_known (length names) x ≡ true
    → param_shape (names ++ more) x ≡ param_shape names x
param_shape-append names more x h =
    let part0 : ty_shape (names ++ more) x.ty ≡ ty_shape names x.ty = ty_shape-append names more x.ty (and_left _ _ h) in
    let part1 : option_map (name_shape (names ++ more)) x.name ≡ option_map (name_shape names) x.name = result_shape-append names more x.name (and_right _ _ h) in
    cc

pub param_known-more : (n m : ℕ) → n ≤ m → (x : Param) → param_known n x ≡ true → param_known m x ≡ true
param_known-more n m le x h = (and_both (ty_known-more n m le x.ty (and_left _ _ h)) (result_known-more n m le x.name (and_right _ _ h)))

pub function_shape-append : (names more : List (List ℕ)) (x : Function) → function_known (length names) x ≡ true
    → function_shape (names ++ more) x ≡ function_shape names x
function_shape-append names more x h =
    let part0 : name_shape (names ++ more) x.name ≡ name_shape names x.name = name_shape-append names more x.name (and_left _ _ (and_left _ _ (and_left _ _ h))) in
    let part1 : ty_shape (names ++ more) x.ret ≡ ty_shape names x.ret = ty_shape-append names more x.ret (and_right _ _ (and_left _ _ (and_left _ _ h))) in
    let part2 : map (param_shape (names ++ more)) x.params.items ≡ map (param_shape names) x.params.items = map_where (param_shape (names ++ more)) (param_shape names) (param_known (length names)) (param_shape-append names more) x.params.items (and_right _ _ (and_left _ _ h)) in
    let part3 : map (block_shape (names ++ more)) x.blocks.items ≡ map (block_shape names) x.blocks.items = map_where (block_shape (names ++ more)) (block_shape names) (block_known (length names)) (block_shape-append names more) x.blocks.items (and_right _ _ h) in
    cc

pub function_known-more : (n m : ℕ) → n ≤ m → (x : Function) → function_known n x ≡ true → function_known m x ≡ true
function_known-more n m le x h = (and_both (and_both (and_both (name_known-more n m le x.name (and_left _ _ (and_left _ _ (and_left _ _ h)))) (ty_known-more n m le x.ret (and_right _ _ (and_left _ _ (and_left _ _ h))))) (list_all-weaker (param_known n) (param_known m) (param_known-more n m le) x.params.items (and_right _ _ (and_left _ _ h)))) (list_all-weaker (block_known n) (block_known m) (block_known-more n m le) x.blocks.items (and_right _ _ h)))

pub global_shape-append : (names more : List (List ℕ)) (x : GlobalItem) → global_known (length names) x ≡ true
    → global_shape (names ++ more) x ≡ global_shape names x
global_shape-append names more x h =
    let part0 : name_shape (names ++ more) x.name ≡ name_shape names x.name = name_shape-append names more x.name (and_left _ _ (and_left _ _ h)) in
    let part1 : ty_shape (names ++ more) x.ty ≡ ty_shape names x.ty = ty_shape-append names more x.ty (and_right _ _ (and_left _ _ h)) in
    let part2 : const_shape (names ++ more) x.init ≡ const_shape names x.init = const_shape-append names more x.init (and_right _ _ h) in
    cc

pub global_known-more : (n m : ℕ) → n ≤ m → (x : GlobalItem) → global_known n x ≡ true → global_known m x ≡ true
global_known-more n m le x h = (and_both (and_both (name_known-more n m le x.name (and_left _ _ (and_left _ _ h))) (ty_known-more n m le x.ty (and_right _ _ (and_left _ _ h)))) (const_known-more n m le x.init (and_right _ _ h)))

pub declare_shape-append : (names more : List (List ℕ)) (x : Declare) → declare_known (length names) x ≡ true
    → declare_shape (names ++ more) x ≡ declare_shape names x
declare_shape-append names more x h =
    let part0 : name_shape (names ++ more) x.name ≡ name_shape names x.name = name_shape-append names more x.name (and_left _ _ (and_left _ _ h)) in
    let part1 : ty_shape (names ++ more) x.ret ≡ ty_shape names x.ret = ty_shape-append names more x.ret (and_right _ _ (and_left _ _ h)) in
    let part2 : map (ty_shape (names ++ more)) x.params.items ≡ map (ty_shape names) x.params.items = map_where (ty_shape (names ++ more)) (ty_shape names) (ty_known (length names)) (ty_shape-append names more) x.params.items (and_right _ _ h) in
    cc

pub declare_known-more : (n m : ℕ) → n ≤ m → (x : Declare) → declare_known n x ≡ true → declare_known m x ≡ true
declare_known-more n m le x h = (and_both (and_both (name_known-more n m le x.name (and_left _ _ (and_left _ _ h))) (ty_known-more n m le x.ret (and_right _ _ (and_left _ _ h)))) (list_all-weaker (ty_known n) (ty_known m) (ty_known-more n m le) x.params.items (and_right _ _ h)))

pub named_ty_shape-append : (names more : List (List ℕ)) (x : NamedTy) → named_ty_known (length names) x ≡ true
    → named_ty_shape (names ++ more) x ≡ named_ty_shape names x
named_ty_shape-append names more x h =
    let part0 : name_shape (names ++ more) x.name ≡ name_shape names x.name = name_shape-append names more x.name (and_left _ _ h) in
    let part1 : ty_shape (names ++ more) x.ty ≡ ty_shape names x.ty = ty_shape-append names more x.ty (and_right _ _ h) in
    cc

pub named_ty_known-more : (n m : ℕ) → n ≤ m → (x : NamedTy) → named_ty_known n x ≡ true → named_ty_known m x ≡ true
named_ty_known-more n m le x h = (and_both (name_known-more n m le x.name (and_left _ _ h)) (ty_known-more n m le x.ty (and_right _ _ h)))

-- a module whose names are known under a table has the same shape under a longer one
pub shape_under-append : (names more : List (List ℕ)) (m : Module) → items_known (length names) m ≡ true
    → shape_under (names ++ more) m ≡ shape_under names m
shape_under-append names more m h =
    let part0 : map (named_ty_shape (names ++ more)) m.types.items ≡ map (named_ty_shape names) m.types.items = map_where (named_ty_shape (names ++ more)) (named_ty_shape names) (named_ty_known (length names)) (named_ty_shape-append names more) m.types.items (and_left _ _ (and_left _ _ (and_left _ _ h))) in
    let part1 : map (global_shape (names ++ more)) m.globals.items ≡ map (global_shape names) m.globals.items = map_where (global_shape (names ++ more)) (global_shape names) (global_known (length names)) (global_shape-append names more) m.globals.items (and_right _ _ (and_left _ _ (and_left _ _ h))) in
    let part2 : map (declare_shape (names ++ more)) m.declares.items ≡ map (declare_shape names) m.declares.items = map_where (declare_shape (names ++ more)) (declare_shape names) (declare_known (length names)) (declare_shape-append names more) m.declares.items (and_right _ _ (and_left _ _ h)) in
    let part3 : map (function_shape (names ++ more)) m.functions.items ≡ map (function_shape names) m.functions.items = map_where (function_shape (names ++ more)) (function_shape names) (function_known (length names)) (function_shape-append names more) m.functions.items (and_right _ _ h) in
    cc

pub items_known-more : (n m : ℕ) → n ≤ m → (x : Module) → items_known n x ≡ true → items_known m x ≡ true
items_known-more n m le x h = (and_both (and_both (and_both (list_all-weaker (named_ty_known n) (named_ty_known m) (named_ty_known-more n m le) x.types.items (and_left _ _ (and_left _ _ (and_left _ _ h)))) (list_all-weaker (global_known n) (global_known m) (global_known-more n m le) x.globals.items (and_right _ _ (and_left _ _ (and_left _ _ h))))) (list_all-weaker (declare_known n) (declare_known m) (declare_known-more n m le) x.declares.items (and_right _ _ (and_left _ _ h)))) (list_all-weaker (function_known n) (function_known m) (function_known-more n m le) x.functions.items (and_right _ _ h)))
