-- Registers that are set, and those that stay.
use Rattle.std.proofs.Common.{◌≡◌, ◌≢◌, ℕ, ◌<◌, ◌≤◌, ◌==◌, Bool, true, false, cond, length, List, slice_index, slice_set, refl, sym, subst, arith, get_or-set_same, get_or-set_other}
use Rattle.std.proofs.Math.ListN.{length-set, set}
use Rattle.std.specs.Prelude.{nat_lt}
use Rattle.std.proofs.lemmas.List.{get_or_past}
use Rattle.std.proofs.lemmas.Bool.Decides.{nat_tests}
use Rattle.rv_model.specs.State.{MachineState, register, set_register}

-- a register that is set, other than x0, holds the value
pub register-set_same : (s : MachineState) (r v : ℕ) → 0 < r → r < length s.regs → register (set_register s r v) r ≡ v
unfolding set_register
register-set_same s r v nonzero there = by_test (r == 0) refl
  where
    by_test : (b : Bool) → (r == 0) ≡ b → slice_index (cond b (s.regs) (slice_set s.regs r v)) r ≡ v
    by_test true e = absurd (grind (arith, nat_tests))
    by_test false e = get_or-set_same s.regs r v 0 there

-- another register stays, and so does x0
pub register-set_other : (s : MachineState) (r q v : ℕ) → q ≢ r → register (set_register s r v) q ≡ register s q
unfolding set_register
register-set_other s r q v other = by_test (r == 0)
  where
    by_test : (b : Bool) → slice_index (cond b (s.regs) (slice_set s.regs r v)) q ≡ slice_index s.regs q
    by_test true = refl
    by_test false = get_or-set_other s.regs r q v 0 other

pub length-set_register : (s : MachineState) (r v : ℕ) → length (set_register s r v).regs ≡ length s.regs
unfolding set_register
length-set_register s r v = by_test (r == 0)
  where
    by_test : (b : Bool) → length (cond b (s.regs) (slice_set s.regs r v)) ≡ length s.regs
    by_test true = refl
    by_test false = length-set s.regs r v

-- each element stays below a bound that the new one is below
bound-set : (n : ℕ) (l : List ℕ) (r v : ℕ) → ((q : ℕ) → slice_index l q < n) → v < n → (q : ℕ) → slice_index (slice_set l r v) q < n
bound-set n l r v wide small q = by_place (q == r) refl
  where
    by_length : (b : Bool) → nat_lt r (length l) ≡ b → slice_index (slice_set l r v) r < n
    by_length true e = let there : r < length l = grind (arith, nat_tests) in rw (get_or-set_same l r v 0 there) small
    by_length false e =
        let past : length (slice_set l r v) ≤ r = grind (arith, nat_tests, length-set l r v) in
        let none : slice_index (slice_set l r v) r ≡ 0 = get_or_past (slice_set l r v) r 0 past in
        omega arith

    by_place : (b : Bool) → (q == r) ≡ b → slice_index (slice_set l r v) q < n
    by_place true e =
        let same : q ≡ r = grind (arith, nat_tests) in
        let P : ℕ → Type 0 = λ k. slice_index (slice_set l r v) k < n in
        subst P (sym same) (by_length (nat_lt r (length l)) refl)
    by_place false e =
        let other : q ≢ r = grind (arith, nat_tests) in
        rw (get_or-set_other l r q v 0 other) (wide q)

-- the registers stay below a bound that the value is below
pub bound-set_register : (n : ℕ) (s : MachineState) (r v : ℕ) → ((q : ℕ) → register s q < n) → v < n → (q : ℕ) → register (set_register s r v) q < n
unfolding set_register
bound-set_register n s r v wide small q = by_test (r == 0)
  where
    by_test : (b : Bool) → slice_index (cond b (s.regs) (slice_set s.regs r v)) q < n
    by_test true = wide q
    by_test false = bound-set n s.regs r v wide small q

pub pc-set_register : (s : MachineState) (r v : ℕ) → (set_register s r v).pc ≡ s.pc
unfolding set_register
pc-set_register s r v = refl

pub segments-set_register : (s : MachineState) (r v : ℕ) → (set_register s r v).segments ≡ s.segments
unfolding set_register
segments-set_register s r v = refl

pub input-set_register : (s : MachineState) (r v : ℕ) → (set_register s r v).input ≡ s.input
unfolding set_register
input-set_register s r v = refl

pub out-set_register : (s : MachineState) (r v : ℕ) → (set_register s r v).out ≡ s.out
unfolding set_register
out-set_register s r v = refl
