-- Each item of a known module is known.
use Rattle.std.proofs.Common.{◌≡◌, ℕ, zero, suc, Bool, true, List, [], ◌∷◌, length, Some, sym, ◌∙◌, ap, slice_get, None, Bor}
use Rattle.std.specs.List.{list_all}
use Rattle.std.specs.Prelude.{IfSome, Option, option_copied}
use Rattle.ir_tree.proofs.Grows.{and_left, and_right}
use Rattle.ir_tree.specs.Known.{module_known, named_ty_known, global_known, declare_known, function_known}
use Rattle.ir_tree.specs.declared.module.NamedTy.{NamedTy}
use Rattle.ir_tree.specs.declared.module.GlobalItem.{GlobalItem}
use Rattle.ir_tree.specs.declared.module.Declare.{Declare}
use Rattle.ir_tree.specs.declared.module.Function.{Function}
use Rattle.ir_tree.specs.declared.module.Module.{Module}

pub all_at : {X : Type 0} (k : X → Bool) (xs : List X) (j : ℕ) (x : X) → list_all k xs ≡ true → slice_get xs j ≡ Some x → k x ≡ true
all_at k [] j x all here = cc
all_at k (y ∷ xs) zero x all here =
    let same : y ≡ x = cc in
    ap k (sym same) ∙ and_left _ _ all
all_at k (y ∷ xs) (suc j) x all here = all_at k xs j x (and_right _ _ all) here

pub types_known : (m : Module) → module_known m ≡ true → (k : ℕ) (t : NamedTy) → slice_get m.types.items k ≡ Some t → named_ty_known (length m.names) t ≡ true
types_known m known k t here = all_at (named_ty_known (length m.names)) m.types.items k t (and_left _ _ (and_left _ _ (and_left _ _ known))) here

pub globals_known : (m : Module) → module_known m ≡ true → (k : ℕ) (g : GlobalItem) → slice_get m.globals.items k ≡ Some g → global_known (length m.names) g ≡ true
globals_known m known k g here = all_at (global_known (length m.names)) m.globals.items k g (and_right _ _ (and_left _ _ (and_left _ _ known))) here

pub declares_known : (m : Module) → module_known m ≡ true → (k : ℕ) (d : Declare) → slice_get m.declares.items k ≡ Some d → declare_known (length m.names) d ≡ true
declares_known m known k d here = all_at (declare_known (length m.names)) m.declares.items k d (and_right _ _ (and_left _ _ known)) here

pub functions_known : (m : Module) → module_known m ≡ true → (k : ℕ) (f : Function) → slice_get m.functions.items k ≡ Some f → function_known (length m.names) f ≡ true
functions_known m known k f here = all_at (function_known (length m.names)) m.functions.items k f (and_right _ _ known) here

-- the declared function at a place, if there is one
pub known_where : (m : Module) → module_known m ≡ true → (k : ℕ) (found : Option (Bor Declare)) → option_copied found ≡ slice_get m.declares.items k
    → IfSome found (λ d. declare_known (length m.names) d.now ≡ true)
known_where m known k None e = cc
known_where m known k (Some d) e = declares_known m known k d.now (sym e)
