-- The types of what is called.
use Rattle.std.proofs.Common.{◌≡◌, ℕ, Bool, true, false, List, map, Option, Some, None, refl, sym, ◌∙◌, ap, subst, slice_get}
use Rattle.std.specs.Prelude.{◌↔◌, IsTrue, option_map}
use Rattle.std.specs.List.{AllByRecursion}
use Rattle.std.proofs.lemmas.Option.{slice_get-map}
use Rattle.ir_tree.specs.Shape.{TyShape, number, boolean, null, undef, poison, zero_value, text, elements, fields, global, address, ValShape, local, fixed, TyValShape, FunctionShape, DeclareShape, call}
use Rattle.ir_tree.specs.ShapeOf.{function_shape, declare_shape, module_shape}
use Rattle.ir_tree.specs.declared.module.Function.{Function}
use Rattle.ir_tree.specs.declared.module.Declare.{Declare}
use Rattle.ir_tree.specs.declared.module.Module.{Module}
use Rattle.ir_rules.specs.declared.Callee.{Callee}
use Rattle.ir_rules.specs.declared.Callee.TheVariants.{Defined, Declared}
use Rattle.ir_rules.specs.Things.{signature_of, Signature}
use Rattle.ir_rules.specs.Instructions.{Around as AroundShape, Calls, Fits, IsWellTyped}
use Rattle.ir_check_insts.specs.Calls.{called_by, callee_in, defined_signature, declared_signature, IsCalledBy, HasTypes, CallsWith}

signature_found : {A B : Type 0} (sig : B → Signature) (f : A → B) (xs : List A) (k : ℕ) (o : Option A) → o ≡ slice_get xs k
    → option_map sig (slice_get (map f xs) k) ≡ option_map (λ x. sig (f x)) o
signature_found sig f xs k None e = ap (option_map sig) (slice_get-map f xs k ∙ ap (option_map f) (sym e))
signature_found sig f xs k (Some x) e = ap (option_map sig) (slice_get-map f xs k ∙ ap (option_map f) (sym e))

-- the types of a defined function
pub defined_found : (m : Module) (k : ℕ) (o : Option Function) → o ≡ slice_get m.functions.items k
    → signature_of (module_shape m) (Defined k) ≡ option_map (defined_signature m.names) o
defined_found m k o e =
    signature_found (λ (f : FunctionShape). record { ret = f.ret; params = map (λ p. p.ty) f.params }) (function_shape m.names) m.functions.items k o e

-- the types of a declared function
pub declared_found : (m : Module) (k : ℕ) (o : Option Declare) → o ≡ slice_get m.declares.items k
    → signature_of (module_shape m) (Declared k) ≡ option_map (declared_signature m.names) o
declared_found m k o e = signature_found (λ (d : DeclareShape). record { ret = d.ret; params = d.params }) (declare_shape m.names) m.declares.items k o e

some_signature : (s r : Signature) → Some s ≡ Some r → s ≡ r
some_signature s r e = cc

-- a function with these types has those of a call where these are those of the call
pub types_told : (a : AroundShape) (callee : Callee) (ret : TyShape) (ps : List TyShape) (s : Signature) (b : Bool) → signature_of a.within callee ≡ Some s
    → IsTrue b ↔ IsCalledBy s ret ps → IsTrue b ↔ HasTypes a callee ret ps
types_told a callee ret ps s b is tells = (
  λ yes. (s, is, tells.0 yes),
  λ has. tells.1 (subst (λ (r : Signature). IsCalledBy r ret ps) (some_signature has.0 s (sym has.1 ∙ is)) has.2),
)

pub types_none : (a : AroundShape) (callee : Callee) (ret : TyShape) (ps : List TyShape) → signature_of a.within callee ≡ None → HasTypes a callee ret ps → ⊥
types_none a callee ret ps none (s, is, called) = let e : ◌≡◌ {A = Option Signature} None (Some s) = sym none ∙ is in cc

-- a call calls what its operand names
abbrev CallsBy : AroundShape → ValShape → Signature → Type 0
CallsBy a v s = (callee : Callee) × (callee_in a v ≡ Some callee) × (signature_of a.within callee ≡ Some s)

calls_by : (a : AroundShape) (v : ValShape) (s : Signature) → Calls a v s → CallsBy a v s
calls_by a (local name) s none = absurd none
calls_by a (fixed c) s (name, callee, is, found, has) = (callee, ap (called_by a) is ∙ found, has)

by_calls : (a : AroundShape) (v : ValShape) (s : Signature) → CallsBy a v s → Calls a v s
by_calls a (local name) s (callee, found, has) = cc
by_calls a (fixed (number value)) s (callee, found, has) = cc
by_calls a (fixed (boolean value)) s (callee, found, has) = cc
by_calls a (fixed null) s (callee, found, has) = cc
by_calls a (fixed undef) s (callee, found, has) = cc
by_calls a (fixed poison) s (callee, found, has) = cc
by_calls a (fixed zero_value) s (callee, found, has) = cc
by_calls a (fixed (text bytes)) s (callee, found, has) = cc
by_calls a (fixed (elements vs)) s (callee, found, has) = cc
by_calls a (fixed (fields vs packed)) s (callee, found, has) = cc
by_calls a (fixed (global name)) s (callee, found, has) = (name, callee, refl, found, has)
by_calls a (fixed (address inbounds t base indices)) s (callee, found, has) = cc

some_callee : (c d : Callee) → Some c ≡ Some d → c ≡ d
some_callee c d e = cc

pub calls_told : (a : AroundShape) (v : ValShape) (ret : TyShape) (ps : List TyShape) (callee : Callee) (b : Bool) → callee_in a v ≡ Some callee
    → IsTrue b ↔ HasTypes a callee ret ps → IsTrue b ↔ CallsWith a v ret ps
calls_told a v ret ps callee b is tells = (
  λ yes. let has = tells.0 yes in (has.0, by_calls a v has.0 (callee, is, has.1), has.2),
  λ calls.
      let by = calls_by a v calls.0 calls.1 in
      let same : by.0 ≡ callee = some_callee by.0 callee (sym by.1 ∙ is) in
      tells.1 (calls.0, subst (λ (c : Callee). signature_of a.within c ≡ Some calls.0) same by.2, calls.2),
)

pub calls_none : (a : AroundShape) (v : ValShape) (ret : TyShape) (ps : List TyShape) → callee_in a v ≡ None → CallsWith a v ret ps → ⊥
calls_none a v ret ps none calls =
    let by = calls_by a v calls.0 calls.1 in
    let e : ◌≡◌ {A = Option Callee} None (Some by.0) = sym none ∙ by.1 in
    cc

-- a call whose callee has its types is well typed where its arguments fit
pub call_then : (a : AroundShape) (v : ValShape) (ret : TyShape) (xs : List TyValShape) (b c : Bool) → b ≡ true
    → IsTrue b ↔ CallsWith a v ret (map (λ x. x.ty) xs) → IsTrue c ↔ AllByRecursion (Fits a) xs → IsTrue c ↔ IsWellTyped a (call ret v xs)
call_then a v ret xs b c first calls fit = (
  λ yes. let has = calls.0 first in (has.0, has.1, has.2.0, has.2.1, fit.0 yes),
  λ all. fit.1 all.4,
)

pub call_else : (a : AroundShape) (v : ValShape) (ret : TyShape) (xs : List TyValShape) (b : Bool) → b ≡ false
    → IsTrue b ↔ CallsWith a v ret (map (λ x. x.ty) xs) → IsTrue b ↔ IsWellTyped a (call ret v xs)
call_else a v ret xs b fails calls = (
  λ yes. cc,
  λ all. let first : b ≡ true = calls.1 (all.0, all.1, (all.2, all.3)) in cc,
)
