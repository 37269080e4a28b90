-- That cases are those of a switch where each is one and no two are the same.
use Rattle.std.proofs.Common.{◌≡◌, ℕ, Bool, List, map, Ok, Err, Result, sym, subst}
use Rattle.std.specs.Prelude.{◌↔◌, IsTrue, IfOk, nat_eq}
use Rattle.std.specs.List.{AllByRecursion, IsDistinct}
use Rattle.std.specs.declared.alloc.AllocError.{AllocError}
use Rattle.std.proofs.lemmas.Simd.{map-map}
use Rattle.ir_tree.specs.ShapeOf.{case_shape}
use Rattle.ir_tree.specs.declared.module.Case.{Case}
use Rattle.ir_rules.specs.Instructions.{IsCase, AreCases, bits_of}

bits_same : (width : ℕ) (cases : List Case) (names : List (List ℕ))
    → map (λ c. bits_of width c.value) (map (case_shape names) cases) ≡ map (λ c. bits_of width c.value) cases
bits_same width cases names = map-map _ _ cases

pub are_cases_if : (width : ℕ) (cases : List Case) (r : Result Bool AllocError)
    → ((names : List (List ℕ)) → AllByRecursion (IsCase width) (map (case_shape names) cases))
    → IfOk r (λ apart. IsTrue apart ↔ IsDistinct nat_eq (map (λ c. bits_of width c.value) cases))
    → IfOk r (λ are. (names : List (List ℕ)) → IsTrue are ↔ AreCases width (map (case_shape names) cases))
are_cases_if width cases (Ok b) each tells = λ names. (
  λ yes. record { each = each names; apart = subst (λ (z : List ℕ). IsDistinct nat_eq z) (sym (bits_same width cases names)) (tells.0 yes) },
  λ are. tells.1 (subst (λ (z : List ℕ). IsDistinct nat_eq z) (bits_same width cases names) are.apart),
)
are_cases_if width cases (Err e) each tells = tells
