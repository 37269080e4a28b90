-- Runs: at most so many steps, and a run that ends within the stack.
use Rattle.std.specs.Prelude.{◌≡◌, ◌≤◌, ◌<◌, ℕ, zero, suc, ◌+◌, List, [], ◌∷◌}
use Rattle.std.specs.List.{AllByRecursion}
use Rattle.ir_model.specs.declared.Why.{Why}
use Rattle.ir_model.specs.Programs.{Program, function_at}
use Rattle.ir_model.specs.States.{Activation, State, StepResult, Continues, Ends, Undefined, begun}
use Rattle.ir_model.specs.Steps.{step}

-- what a run comes to: an end with its output, its status and how many steps there were; no meaning, with the output before; or more
-- steps than were allowed
pub data Outcome : Type 0 where
  HasEnded : (out : List ℕ) (status steps : ℕ) → Outcome
  IsUndefined : (why : Why) (out : List ℕ) → Outcome
  StepsOver : (out : List ℕ) → Outcome

-- what a run comes to that has one step more before it
abbrev pub one_more : Outcome → Outcome
one_more (HasEnded out status steps) = HasEnded out status (suc steps)
one_more (IsUndefined cause out) = IsUndefined cause out
one_more (StepsOver out) = StepsOver out

-- what a run comes to after its first step
abbrev pub followed : StepResult → List ℕ → (State → Outcome) → Outcome
followed (Continues t) out later = one_more (later t)
followed (Ends status) out later = HasEnded out status 1
followed (Undefined cause) out later = IsUndefined cause out

-- what a program comes to from a state in at most so many steps
unfoldable pub run : ℕ → Program → State → Outcome
run zero p s = StepsOver s.out
run (suc n) p s = followed (step p s) s.out (run n p)

-- how many bytes of stack activations are counted as
abbrev pub frames : Program → List Activation → ℕ
frames p [] = 0
frames p (a ∷ rest) = (function_at p a.function).frame + frames p rest

-- a state is within the stack: 64 bytes and those of its activations (this profile's choice)
abbrev pub IsWithinStack : Program → State → Type 0
IsWithinStack p s = 64 + frames p s.stack ≤ 8388608

-- a step leads to an end with this output and status: it is itself that end and no step is left, or what follows leads there
abbrev pub LeadsTo : StepResult → ℕ → List ℕ → List ℕ → ℕ → (State → Type 0) → Type 0
LeadsTo (Continues t) left before out status Later = Later t
LeadsTo (Ends z) left before out status Later = (left ≡ 0) × (before ≡ out) × (z ≡ status)
LeadsTo (Undefined cause) left before out status Later = ⊥

-- a program ends from a state after just so many steps, with this output and status, and each state of it is within the stack
unfoldable pub EndsFrom : Program → ℕ → State → List ℕ → ℕ → Type 0
EndsFrom p zero s out status = ⊥
EndsFrom p (suc n) s out status = IsWithinStack p s × LeadsTo (step p s) n s.out out status (λ t. EndsFrom p n t out status)

-- a program ends on an input of bytes after just so many steps, with this output and status, and its states are within the stack
pub record MeaningEnds (p : Program) (input : List ℕ) (steps : ℕ) (out : List ℕ) (status : ℕ) : Type 0 where
  pub bytes : AllByRecursion (λ c. c < 256) input
  pub ends : EndsFrom p steps (begun p input) out status
