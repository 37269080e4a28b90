-- From one assertion to another, with at most one flip, which falls outside a list of points. A point is a pc with a register.
use Rattle.std.specs.Prelude.{◌≡◌, ℕ, suc, ◌+◌, ◌≤◌, ◌<◌, List, Option, Some, None}
use Rattle.rv_model.specs.declared.Flip.{Flip}
use Rattle.rv_model.specs.State.{MachineState}
use Rattle.rv_model.specs.Step.{Continues, step}
use Rattle.rv_model.specs.Run.{HasEnded, FlipFits, IsOutside, more, after, run}
use Rattle.rv_flips.specs.Cells.{Damage, Nothing, Has, Sure}
use Rattle.rv_flips.specs.Assertion.{Assertion, Meets}

-- a flip that is still to come: nothing is damaged so far, and it falls outside the list
pub record IsPending (listed : ℕ → ℕ → Type 0) (damage : Damage) (s : MachineState) (f : Flip) : Type 0 where
  pub undamaged : damage ≡ Nothing
  pub fits : FlipFits f
  pub outside : IsOutside listed s f

-- where a flip is still to come, nothing is damaged so far, and it falls outside the list
abbrev pub Pending : (ℕ → ℕ → Type 0) → Damage → MachineState → Option Flip → Type 0
Pending listed damage s None = Unit {0}
Pending listed damage s (Some f) = IsPending listed damage s f

-- a state that meets the assertion with some damage, and a flip that is still to come, if one is
pub record Good (words : List ℕ) (listed : ℕ → ℕ → Type 0) (c : Assertion) (s : MachineState) (f : Option Flip) : Type 0 where
  pub damage : Damage
  pub meets : Meets words c damage s
  pub pending : Pending listed damage s f

-- each register that the assertion has for sure, but x0, is listed at its pc
abbrev pub Covered : (ℕ → ℕ → Type 0) → Assertion → Type 0
Covered listed c = (r v : ℕ) → c.regs r ≡ Has Sure v → 0 < r → listed c.pc r

-- the flip, if it comes here, has struck: the state in which the next instruction is tried meets the assertion with some damage; and
-- the flip that is left
pub record Ready (words : List ℕ) (listed : ℕ → ℕ → Type 0) (c : Assertion) (s : MachineState) (f : Option Flip) : Type 0 where
  pub now : MachineState
  pub damage : Damage
  pub rest : Option Flip
  pub meets : Meets words c damage now
  pub goes : (k : ℕ) → run (suc k) s f ≡ after (step now) c.out (λ t. run k t rest)
  pub pending : (t : MachineState) → step now ≡ Continues t → Pending listed damage t rest

-- a run comes to a state that meets the assertion after at most n instructions
pub record Arrives (words : List ℕ) (listed : ℕ → ℕ → Type 0) (c : Assertion) (n : ℕ) (s : MachineState) (f : Option Flip) : Type 0 where
  pub steps : ℕ
  pub state : MachineState
  pub flip : Option Flip
  pub few : steps ≤ n
  pub good : Good words listed c state flip
  pub goes : (k : ℕ) → run (steps + k) s f ≡ more steps (run k state flip)

-- each run from a state that meets c comes to one that meets d, after at most n instructions
abbrev pub Moves : List ℕ → (ℕ → ℕ → Type 0) → Assertion → ℕ → Assertion → Type 0
Moves words listed c n d = (s : MachineState) (f : Option Flip) → Good words listed c s f → Arrives words listed d n s f

-- what one word does to a state: the machine goes on in a state that meets d with the same damage
pub record Does (words : List ℕ) (damage : Damage) (s : MachineState) (d : Assertion) : Type 0 where
  pub state : MachineState
  pub goes : step s ≡ Continues state
  pub meets : Meets words d damage state

-- the run ends with this output and status after at most n instructions
pub record EndsWithin (n : ℕ) (s : MachineState) (f : Option Flip) (out : List ℕ) (status : ℕ) : Type 0 where
  pub steps : ℕ
  pub few : steps ≤ n
  pub ends : (k : ℕ) → run (steps + k) s f ≡ HasEnded out status steps

-- each run from a state that meets the assertion ends so
abbrev pub Finishes : List ℕ → (ℕ → ℕ → Type 0) → Assertion → ℕ → List ℕ → ℕ → Type 0
Finishes words listed c n out status = (s : MachineState) (f : Option Flip) → Good words listed c s f → EndsWithin n s f out status
