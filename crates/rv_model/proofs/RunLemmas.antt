-- A run, one instruction at a time.
use Rattle.std.proofs.Common.{◌≡◌, ℕ, suc, ◌+◌, List, Option, Some, refl, ◌∙◌, ap, arith}
use Rattle.rv_model.specs.declared.Cause.{Cause}
use Rattle.rv_model.specs.declared.Flip.{Flip}
use Rattle.rv_model.specs.State.{MachineState}
use Rattle.rv_model.specs.Step.{StepResult, Continues, Ends, Traps, step}
use Rattle.rv_model.specs.Run.{RunResult, HasEnded, HasTrapped, GoesOn, struck, later, more, after, run, continued, pc_at}

pub run-zero : (s : MachineState) (f : Option Flip) → run 0 s f ≡ GoesOn s
unfolding run
run-zero s f = refl

pub run-suc : (k : ℕ) (s : MachineState) (f : Option Flip) → run (suc k) s f ≡ after (step (struck f s)) s.out (λ t. run k t (later f))
unfolding run
run-suc k s f = refl

-- an instruction after which the machine goes on
pub run-continues : (k : ℕ) (s t : MachineState) (f : Option Flip) → step (struck f s) ≡ Continues t → run (suc k) s f ≡ more 1 (run k t (later f))
run-continues k s t f e = run-suc k s f ∙ ap (λ (r : StepResult). after r s.out (λ t. run k t (later f))) e

-- the instruction that ends the program
pub run-ends : (k : ℕ) (s : MachineState) (f : Option Flip) (status : ℕ) → step (struck f s) ≡ Ends status → run (suc k) s f ≡ HasEnded s.out status 1
run-ends k s f status e = run-suc k s f ∙ ap (λ (r : StepResult). after r s.out (λ t. run k t (later f))) e

-- an instruction that traps
pub run-traps : (k : ℕ) (s : MachineState) (f : Option Flip) (pc : ℕ) (cause : Cause) → step (struck f s) ≡ Traps pc cause → run (suc k) s f ≡ HasTrapped pc cause s.out
run-traps k s f pc cause e = run-suc k s f ∙ ap (λ (r : StepResult). after r s.out (λ t. run k t (later f))) e

-- counts add up
pub more-more : (m n : ℕ) (r : RunResult) → more m (more n r) ≡ more (m + n) r
more-more m n (HasEnded out status steps) = ap (HasEnded out status) (omega arith)
more-more m n (HasTrapped pc cause out) = refl
more-more m n (GoesOn s) = refl

pub more-zero : (r : RunResult) → more 0 r ≡ r
more-zero (HasEnded out status steps) = ap (HasEnded out status) (omega arith)
more-zero (HasTrapped pc cause out) = refl
more-zero (GoesOn s) = refl

-- an ending after n more instructions
pub more-ended : (n : ℕ) (r : RunResult) (out : List ℕ) (status steps : ℕ) → r ≡ HasEnded out status steps → more n r ≡ HasEnded out status (n + steps)
more-ended n r out status steps e = ap (more n) e

-- the instructions of the run without a flip
pub pc_at-zero : (s : MachineState) → pc_at 0 s ≡ Some s.pc
unfolding pc_at
pc_at-zero s = refl

pub pc_at-suc : (n : ℕ) (s t : MachineState) → step s ≡ Continues t → pc_at (suc n) s ≡ pc_at n t
unfolding pc_at
pc_at-suc n s t e = ap (λ (r : StepResult). continued r (pc_at n)) e
