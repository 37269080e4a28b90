-- The parts of an item are known where the item is.
use Rattle.std.proofs.Common.{◌≡◌, ℕ, Bool, true, false, ◌&&◌}
use Rattle.std.specs.List.{list_all}
use Rattle.ir_tree.specs.Known.{name_known, ty_known, const_known, param_known, block_known, global_known, declare_known, function_known}
use Rattle.ir_tree.proofs.Grows.{and_left}
use Rattle.ir_tree.specs.declared.module.GlobalItem.{GlobalItem}
use Rattle.ir_tree.specs.declared.module.Declare.{Declare}
use Rattle.ir_tree.specs.declared.module.Function.{Function}

last_two : (a b c : Bool) → (a && b && c) ≡ true → (b && c) ≡ true
last_two true b c h = h
last_two false b c h = cc

pub global_parts : (n : ℕ) (x : GlobalItem) → global_known n x ≡ true → (ty_known n x.ty && const_known n x.init) ≡ true
global_parts n x h = last_two (name_known n x.name) (ty_known n x.ty) (const_known n x.init) h

pub declare_parts : (n : ℕ) (x : Declare) → declare_known n x ≡ true → (ty_known n x.ret && list_all (ty_known n) x.params.items) ≡ true
declare_parts n x h = last_two (name_known n x.name) (ty_known n x.ret) (list_all (ty_known n) x.params.items) h

pub function_parts : (n : ℕ) (x : Function) → function_known n x ≡ true → (ty_known n x.ret && list_all (param_known n) x.params.items) ≡ true
function_parts n x h =
    last_two (name_known n x.name) (ty_known n x.ret) (list_all (param_known n) x.params.items)
    (and_left (name_known n x.name && ty_known n x.ret && list_all (param_known n) x.params.items) (list_all (block_known n) x.blocks.items) h)
