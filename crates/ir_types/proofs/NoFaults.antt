-- Proper names and types have no faults, and a first fault is one offset.
use Rattle.std.proofs.Common.{◌≡◌, ℕ, ◌≤◌, inl, inr, Some, refl, ap, arith}
use Rattle.std.specs.Prelude.{Result, Ok, Err}
use Rattle.ir_tree.specs.ShapeOf.{module_shape}
use Rattle.ir_tree.specs.declared.parsed.Parsed.{Parsed}
use Rattle.ir_rules.specs.NameRules.{HasNames}
use Rattle.ir_rules.specs.TypeRules.{HasTypes}
use Rattle.ir_rules.specs.Faults.{NameFault, TypeFault, IsFirst}
use Rattle.ir_types.specs.Answers.{IsChecked}
use Rattle.ir_types.specs.declared.error.TypeError.{TypeError}
use Rattle.ir_types.specs.declared.error.TypeError.TheVariants.{Name, Typing, OutOfMemory}

pub no_name_fault : (p : Parsed) (at : ℕ) → HasNames (module_shape p.«module») → NameFault p at → ⊥
no_name_fault p at names (inl missing) = missing.2 (names.there missing.0)
no_name_fault p at names (inr (inl repeat)) = names.once repeat.0 repeat.2
no_name_fault p at names (inr (inr clash)) = names.apart clash.one clash.other clash.clash

pub no_type_fault : (p : Parsed) (at : ℕ) → HasTypes (module_shape p.«module») → TypeFault p at → ⊥
no_type_fault p at types fault = fault.2 (types fault.0)

pub one_first : (Fault : ℕ → Type 0) (one other : ℕ) → IsFirst Fault (Some one) → IsFirst Fault (Some other) → one ≡ other
one_first Fault one other first second =
    let low : one ≤ other = first.1 other second.0 in
    let high : other ≤ one = second.1 one first.0 in
    omega arith

pub one_answer : (p : Parsed) (one other : Result (Unit {0}) TypeError) → IsChecked p one → IsChecked p other → (one ≡ Err OutOfMemory → ⊥)
    → (other ≡ Err OutOfMemory → ⊥) → one ≡ other
one_answer p (Err OutOfMemory) other first second has_memory also = absurd (has_memory refl)
one_answer p (Ok done) (Err OutOfMemory) first second has_memory also = absurd (also refl)
one_answer p (Err (Name at)) (Err OutOfMemory) first second has_memory also = absurd (also refl)
one_answer p (Err (Typing at)) (Err OutOfMemory) first second has_memory also = absurd (also refl)
one_answer p (Ok done) (Ok again) first second has_memory also = refl
one_answer p (Ok done) (Err (Name at)) first second has_memory also = absurd (no_name_fault p at first.0 second.0)
one_answer p (Ok done) (Err (Typing at)) first second has_memory also = absurd (no_type_fault p at first.1 second.1.0)
one_answer p (Err (Name at)) (Ok done) first second has_memory also = absurd (no_name_fault p at second.0 first.0)
one_answer p (Err (Name at)) (Err (Name other)) first second has_memory also =
    ap (λ (n : ℕ). Err (Name n)) (one_first (NameFault p) at other first second)
one_answer p (Err (Name at)) (Err (Typing other)) first second has_memory also = absurd (no_name_fault p at second.0 first.0)
one_answer p (Err (Typing at)) (Ok done) first second has_memory also = absurd (no_type_fault p at second.1 first.1.0)
one_answer p (Err (Typing at)) (Err (Name other)) first second has_memory also = absurd (no_name_fault p other first.0 second.0)
one_answer p (Err (Typing at)) (Err (Typing other)) first second has_memory also =
    ap (λ (n : ℕ). Err (Typing n)) (one_first (TypeFault p) at other first.1 second.1)
