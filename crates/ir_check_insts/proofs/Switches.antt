-- That a switch is well typed where its value fits, by its cases.
use Rattle.std.proofs.Common.{◌≡◌, ℕ, ◌≤◌, Bool, List, map, Ok, Err, Result, sym, ◌∙◌, subst}
use Rattle.std.specs.Prelude.{◌↔◌, IsTrue, IfOk}
use Rattle.std.specs.declared.alloc.AllocError.{AllocError}
use Rattle.ir_tree.specs.Shape.{TyShape, integer, TyValShape, CaseShape, switch}
use Rattle.ir_tree.specs.ShapeOf.{case_shape}
use Rattle.ir_tree.specs.declared.module.Case.{Case}
use Rattle.ir_rules.specs.Instructions.{Around as AroundShape, Fits, AreCases, IsWellTyped}

one_width : (t : TyShape) (w v : ℕ) → t ≡ integer w → t ≡ integer v → w ≡ v
one_width t w v e f = let same : integer w ≡ integer v = sym e ∙ f in cc

pub switch_then : (a : AroundShape) (x : TyValShape) (names : List (List ℕ)) (w : ℕ) (cases : List Case) → x.ty ≡ integer w → 1 ≤ w → w ≤ 64 → Fits a x
    → (r : Result Bool AllocError) → IfOk r (λ are. (other : List (List ℕ)) → IsTrue are ↔ AreCases w (map (case_shape other) cases))
    → IfOk r (λ is. (otherwise : List ℕ) → IsTrue is ↔ IsWellTyped a (switch x otherwise (map (case_shape names) cases)))
switch_then a x names w cases is some small fits (Ok b) are = λ otherwise. (
  λ yes. (w, is, (w, is, some, small), fits, (are names).0 yes),
  λ all.
      (are names).1 (subst (λ (v : ℕ). AreCases v (map (case_shape names) cases)) (one_width x.ty all.0 w all.1 is) all.4),
)
switch_then a x names w cases is some small fits (Err e) are = are

-- whatever block all other values lead to
pub switch_any : (a : AroundShape) (x : TyValShape) (cases : List CaseShape) (o : List ℕ) (r : Result Bool AllocError)
    → IfOk r (λ is. (otherwise : List ℕ) → IsTrue is ↔ IsWellTyped a (switch x otherwise cases)) → IfOk r (λ is. IsTrue is ↔ IsWellTyped a (switch x o cases))
switch_any a x cases o (Ok b) tells = tells o
switch_any a x cases o (Err e) tells = tells
