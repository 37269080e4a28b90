-- Which registers keep a value for sure, and so must be listed.
use Rattle.std.proofs.Common.{◌≡◌, ◌≢◌, ℕ, ◌==◌, inl, inr, Bool, true, false, List, [], ◌∷◌, refl, sym, ◌∙◌, subst, arith}
use Rattle.std.proofs.lemmas.Bool.Decides.{nat_tests}
use Rattle.rv_flips.specs.Cells.{Cell, Has, Sure}
use Rattle.rv_flips.specs.Assertion.{Assertion, with_register}
use Rattle.rv_flips.specs.Known.{IsOneOf, Sures, AllListed}
use Rattle.rv_flips.specs.Moves.{Covered}
use Rattle.rv_flips.proofs.CellLemmas.{with_register-same, with_register-other}

is_listed : (listed : ℕ → ℕ → Type 0) (p r : ℕ) (rs : List ℕ) → AllListed listed p rs → IsOneOf r rs → listed p r
is_listed listed p r [] h k = absurd k
is_listed listed p r (x ∷ xs) h (inl e) = let P : ℕ → Type 0 = λ q. listed p q in subst P (sym e) h.0
is_listed listed p r (x ∷ xs) h (inr k) = is_listed listed p r xs h.1 k

pub covered : (listed : ℕ → ℕ → Type 0) (c : Assertion) (rs : List ℕ) → Sures c.regs rs → AllListed listed c.pc rs → Covered listed c
covered listed c rs sures all r v is nonzero = is_listed listed c.pc r rs all (sures r v is nonzero)

-- one more register
pub sures_sure : (regs : ℕ → Cell) (d v : ℕ) (rs : List ℕ) → Sures regs rs → Sures (with_register regs d (Has Sure v)) (d ∷ rs)
sures_sure regs d v rs sures r w is nonzero = by_place (r == d) refl
  where
    by_place : (b : Bool) → (r == d) ≡ b → IsOneOf r (d ∷ rs)
    by_place true e = inl (grind (arith, nat_tests))
    by_place false e = let other : r ≢ d = grind (arith, nat_tests) in inr (sures r w (sym (with_register-other regs d r (Has Sure v) other) ∙ is) nonzero)

-- a register that is kept otherwise
pub sures_other : (regs : ℕ → Cell) (d : ℕ) (cell : Cell) (rs : List ℕ) → ((v : ℕ) → cell ≡ Has Sure v → ⊥) → Sures regs rs → Sures (with_register regs d cell) rs
sures_other regs d cell rs not_sure sures r w is nonzero = by_place (r == d) refl
  where
    by_place : (b : Bool) → (r == d) ≡ b → IsOneOf r rs
    by_place true e =
        let same : r ≡ d = grind (arith, nat_tests) in
        let P : ℕ → Type 0 = λ k. with_register regs d cell k ≡ Has Sure w in
        absurd (not_sure w (sym (with_register-same regs d cell) ∙ subst P same is))
    by_place false e = let other : r ≢ d = grind (arith, nat_tests) in sures r w (sym (with_register-other regs d r cell other) ∙ is) nonzero

-- the first of the registers is kept otherwise from here
pub sures_without : (regs : ℕ → Cell) (d : ℕ) (cell : Cell) (rs : List ℕ) → ((v : ℕ) → cell ≡ Has Sure v → ⊥) → Sures regs (d ∷ rs) → Sures (with_register regs d cell) rs
sures_without regs d cell rs not_sure sures r w is nonzero = by_place (r == d) refl
  where
    others : IsOneOf r (d ∷ rs) → r ≢ d → IsOneOf r rs
    others (inl e) ne = absurd (ne e)
    others (inr k) ne = k

    by_place : (b : Bool) → (r == d) ≡ b → IsOneOf r rs
    by_place true e =
        let same : r ≡ d = grind (arith, nat_tests) in
        let P : ℕ → Type 0 = λ k. with_register regs d cell k ≡ Has Sure w in
        absurd (not_sure w (sym (with_register-same regs d cell) ∙ subst P same is))
    by_place false e = let other : r ≢ d = grind (arith, nat_tests) in others (sures r w (sym (with_register-other regs d r cell other) ∙ is) nonzero) other
