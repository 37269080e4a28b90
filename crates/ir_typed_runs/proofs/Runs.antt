-- An invariant holds in every state of every run.
use Rattle.std.specs.Prelude.{ℕ, zero, suc}
use Rattle.std.proofs.Common.{subst}
use Rattle.ir_model.specs.Programs.{Program}
use Rattle.ir_model.specs.States.{State, begun}
use Rattle.ir_typed_runs.specs.Invariants.{ComesTo, IsReached, IsInvariant}

stays_on : (p : Program) (Holds : State → Type 0) → IsInvariant p Holds → (n : ℕ) (s t : State) → ComesTo p n s t → Holds s → Holds t
stays_on p Holds is zero s t comes holds = subst Holds comes holds
stays_on p Holds is (suc n) s t comes holds = stays_on p Holds is n comes.0 t comes.2 (is.stays s comes.0 holds comes.1)

pub every_state_has : (p : Program) (Holds : State → Type 0) → IsInvariant p Holds → (s : State) → IsReached p s → Holds s
every_state_has p Holds is s reached =
    stays_on p Holds is reached.steps (begun p reached.input) s reached.comes (is.begins reached.input reached.bytes)

-- two invariants together are one
pub both_are : (p : Program) (Holds Also : State → Type 0) → IsInvariant p Holds → IsInvariant p Also → IsInvariant p (λ s. Holds s × Also s)
both_are p Holds Also one two = record {
  begins = λ input bytes. (one.begins input bytes, two.begins input bytes);
  stays = λ s t holds goes. (one.stays s t holds.0 goes, two.stays s t holds.1 goes);
}
