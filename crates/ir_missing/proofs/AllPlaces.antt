-- The first of all names that aren't there, from the first of each kind of place.
use Rattle.std.proofs.Common.{ℕ, ◌⊎◌, inl, inr, Option}
use Rattle.ir_tree.specs.declared.parsed.Parsed.{Parsed}
use Rattle.ir_rules.specs.Places.{type_at, global_at, declare_at, function_at, inst_at_place}
use Rattle.ir_rules.specs.Faults.{MissingFault, IsFirst}
use Rattle.ir_missing.specs.Missing.{IsMissing, InFunction, earlier}
use Rattle.ir_missing.proofs.Earliest.{first_both, first_same}

-- the kinds of places
abbrev AtType : Parsed → ℕ → Type 0
AtType p at = (k : ℕ) × IsMissing p (type_at k) at

abbrev AtGlobal : Parsed → ℕ → Type 0
AtGlobal p at = (k : ℕ) × IsMissing p (global_at k) at

abbrev AtDeclare : Parsed → ℕ → Type 0
AtDeclare p at = (k : ℕ) × IsMissing p (declare_at k) at

abbrev AtFunction : Parsed → ℕ → Type 0
AtFunction p at = (k : ℕ) × IsMissing p (function_at k) at

abbrev AtInst : Parsed → ℕ → Type 0
AtInst p at = (f : ℕ) × InFunction p f at

abbrev Or : (ℕ → Type 0) → (ℕ → Type 0) → ℕ → Type 0
Or F G at = F at ⊎ G at

first_or : (F G : ℕ → Type 0) (a b : Option ℕ) → IsFirst F a → IsFirst G b → IsFirst (Or F G) (earlier a b)
first_or F G a b f g = first_both F G (Or F G) a b f g (λ at is. is) (λ at is. inl is) (λ at is. inr is)

abbrev AtAny : Parsed → ℕ → Type 0
AtAny p = Or (Or (Or (Or (AtType p) (AtGlobal p)) (AtDeclare p)) (AtFunction p)) (AtInst p)

by_kind : (p : Parsed) (at : ℕ) → MissingFault p at → AtAny p at
by_kind p at (type_at k, spot, not) = inl (inl (inl (inl (k, record { spot = spot; not_there = not }))))
by_kind p at (global_at k, spot, not) = inl (inl (inl (inr (k, record { spot = spot; not_there = not }))))
by_kind p at (declare_at k, spot, not) = inl (inl (inr (k, record { spot = spot; not_there = not })))
by_kind p at (function_at k, spot, not) = inl (inr (k, record { spot = spot; not_there = not }))
by_kind p at (inst_at_place f b i, spot, not) = inr (f, (b, (i, record { spot = spot; not_there = not })))

of_kind : (p : Parsed) (at : ℕ) → AtAny p at → MissingFault p at
of_kind p at (inl (inl (inl (inl (k, miss))))) = (type_at k, miss.spot, miss.not_there)
of_kind p at (inl (inl (inl (inr (k, miss))))) = (global_at k, miss.spot, miss.not_there)
of_kind p at (inl (inl (inr (k, miss)))) = (declare_at k, miss.spot, miss.not_there)
of_kind p at (inl (inr (k, miss))) = (function_at k, miss.spot, miss.not_there)
of_kind p at (inr (f, (b, (i, miss)))) = (inst_at_place f b i, miss.spot, miss.not_there)

-- the first of all
pub first_of_all : (p : Parsed) (t g d h i : Option ℕ) → IsFirst (AtType p) t → IsFirst (AtGlobal p) g → IsFirst (AtDeclare p) d → IsFirst (AtFunction p) h
    → IsFirst (AtInst p) i → IsFirst (MissingFault p) (earlier (earlier (earlier (earlier t g) d) h) i)
first_of_all p t g d h i types globals declares functions insts =
    first_same (AtAny p) (MissingFault p) (earlier (earlier (earlier (earlier t g) d) h) i)
    (first_or _ (AtInst p) _ i
    (first_or _ (AtFunction p) _ h (first_or _ (AtDeclare p) _ d (first_or (AtType p) (AtGlobal p) t g types globals) declares) functions) insts)
    (by_kind p) (of_kind p)
