-- That parts of a known module are known.
use Rattle.std.proofs.Common.{◌≡◌, ℕ, zero, suc, ◌<◌, Bool, true, List, [], ◌∷◌, length, get_or, arith, sym, ◌∙◌, ap, Option, Some, None, nat_lt, ltb-true, Bor}
use Rattle.std.specs.Prelude.{IfSome, is_some}
use Rattle.std.specs.List.{list_all}
use Rattle.ir_tree.specs.Known.{ty_known, val_known, ty_val_known, result_known, param_known, function_known, declare_known}
use Rattle.ir_tree.specs.declared.module.TyVal.{TyVal}
use Rattle.ir_tree.specs.declared.module.Param.{Param}
use Rattle.ir_tree.specs.declared.module.Function.{Function}
use Rattle.ir_tree.specs.declared.module.Declare.{Declare}
use Rattle.ir_tree.proofs.Grows.{and_left, and_right}

pub ret_known : (n : ℕ) (f : Function) → function_known n f ≡ true → ty_known n f.ret ≡ true
ret_known n f known = and_right _ _ (and_left _ _ (and_left _ _ known))

pub params_known : (n : ℕ) (f : Function) → function_known n f ≡ true → list_all (param_known n) f.params.items ≡ true
params_known n f known = and_right _ _ (and_left _ _ known)

pub declared_ret_known : (n : ℕ) (d : Declare) → declare_known n d ≡ true → ty_known n d.ret ≡ true
declared_ret_known n d known = and_right _ _ (and_left _ _ known)

pub declared_params_known : (n : ℕ) (d : Declare) → declare_known n d ≡ true → list_all (ty_known n) d.params.items ≡ true
declared_params_known n d known = and_right _ _ known

-- one of a list of which each is known
pub known_at : {A : Type 0} (p : A → Bool) (xs : List A) (i : ℕ) (x : A) → list_all p xs ≡ true → i < length xs → x ≡ get_or xs i x → p x ≡ true
known_at p [] i x all h is = absurd (omega arith)
known_at p (y ∷ ys) zero x all h is = ap p is ∙ and_left _ _ all
known_at p (y ∷ ys) (suc i) x all h is = known_at p ys i x (and_right _ _ all) (omega arith) is

-- the type of one of a list of known operands, or of known parameters
pub ty_val_known_at : (n : ℕ) (xs : List TyVal) (i : ℕ) (x : TyVal) → list_all (ty_val_known n) xs ≡ true → i < length xs → x ≡ get_or xs i x
    → ty_known n x.ty ≡ true
ty_val_known_at n xs i x all h is = and_left (ty_known n x.ty) (val_known n x.val) (known_at (ty_val_known n) xs i x all h is)

pub param_known_at : (n : ℕ) (xs : List Param) (i : ℕ) (x : Param) → list_all (param_known n) xs ≡ true → i < length xs → x ≡ get_or xs i x
    → ty_known n x.ty ≡ true
param_known_at n xs i x all h is = and_left (ty_known n x.ty) (result_known n x.name) (known_at (param_known n) xs i x all h is)

-- what is looked up in a list of which each is known
pub found_known : {A : Type 0} (p : A → Bool) (xs : List A) (k : ℕ) (o : Option (Bor A)) → is_some o ≡ nat_lt k (length xs)
    → IfSome o (λ x. x.now ≡ get_or xs k x.now) → list_all p xs ≡ true → IfSome o (λ x. p x.now ≡ true)
found_known p xs k None there is all = tt
found_known p xs k (Some x) there is all = known_at p xs k x.now all (ltb-true k (length xs) (sym there)) is
