-- What holds in every state of every run, as an invariant of one form.
use Rattle.std.specs.Prelude.{◌≡◌, ◌<◌, ℕ, zero, suc, List}
use Rattle.std.specs.List.{AllByRecursion}
use Rattle.ir_model.specs.Programs.{Program}
use Rattle.ir_model.specs.States.{State, Continues, begun}
use Rattle.ir_model.specs.Steps.{step}

-- a list of bytes
abbrev pub AreBytes : List ℕ → Type 0
AreBytes bytes = AllByRecursion (λ c. c < 256) bytes

-- a program comes from a state to another one by just so many steps
abbrev pub ComesTo : Program → ℕ → State → State → Type 0
ComesTo p zero s t = s ≡ t
ComesTo p (suc n) s t = (u : State) × (step p s ≡ Continues u) × ComesTo p n u t

-- a state of a run: one to which the program comes from its start on an input of bytes
pub record IsReached (p : Program) (s : State) : Type 0 where
  pub input : List ℕ
  pub bytes : AreBytes input
  pub steps : ℕ
  pub comes : ComesTo p steps (begun p input) s

-- an invariant of a program: it holds at the start on each input of bytes, and each step keeps it
pub record IsInvariant (p : Program) (Holds : State → Type 0) : Type 0 where
  pub begins : (input : List ℕ) → AreBytes input → Holds (begun p input)
  pub stays : (s t : State) → Holds s → step p s ≡ Continues t → Holds t
