-- A run that ends, by steps and by their number.
use Rattle.std.specs.Prelude.{◌≡◌, ◌≤◌, ℕ, zero, suc, ◌+◌, List}
use Rattle.std.proofs.Common.{arith, ap, sym, ◌∙◌}
use Rattle.ir_model.specs.Programs.{Program}
use Rattle.ir_model.specs.States.{State, StepResult, Continues, Ends, Undefined, begun}
use Rattle.ir_model.specs.Steps.{step}
use Rattle.ir_model.specs.Runs.{Outcome, HasEnded, IsUndefined, StepsOver, one_more, followed, run, LeadsTo, EndsFrom, MeaningEnds}

-- after a step that leads to an end, the run has that end
followed_ends : (r : StepResult) (n : ℕ) (before out : List ℕ) (status : ℕ) (Later : State → Type 0) (later : State → Outcome)
    → ((t : State) → Later t → later t ≡ HasEnded out status n) → LeadsTo r n before out status Later → followed r before later ≡ HasEnded out status (suc n)
followed_ends (Continues t) n before out status Later later ends leads = ap one_more (ends t leads)
followed_ends (Ends z) n before out status Later later ends leads =
    ap (λ (o : List ℕ). HasEnded o z 1) leads.1 ∙ ap (λ (w : ℕ). HasEnded out w 1) leads.2 ∙ ap (λ (k : ℕ). HasEnded out status (suc k)) (sym leads.0)
followed_ends (Undefined cause) n before out status Later later ends leads = absurd leads

pub ends_run : (p : Program) (n k : ℕ) (s : State) (out : List ℕ) (status : ℕ) → EndsFrom p n s out status → n ≤ k → run k p s ≡ HasEnded out status n
unfolding run EndsFrom
ends_run p zero k s out status ends le = absurd ends
ends_run p (suc n) zero s out status ends le = absurd (omega arith)
ends_run p (suc n) (suc k) s out status ends le =
    followed_ends (step p s) n s.out out status (λ t. EndsFrom p n t out status) (run k p) (λ t later. ends_run p n k t out status later (omega arith)) ends.1

-- the parts of an end
steps_of : Outcome → ℕ
steps_of (HasEnded out status steps) = steps
steps_of (IsUndefined cause out) = 0
steps_of (StepsOver out) = 0

status_of : Outcome → ℕ
status_of (HasEnded out status steps) = status
status_of (IsUndefined cause out) = 0
status_of (StepsOver out) = 0

out_of : Outcome → List ℕ
out_of (HasEnded out status steps) = out
out_of (IsUndefined cause out) = out
out_of (StepsOver out) = out

pub ends_once : (p : Program) (input : List ℕ) (n m : ℕ) (out others : List ℕ) (status other : ℕ) → MeaningEnds p input n out status
    → MeaningEnds p input m others other
    → (n ≡ m) × (out ≡ others) × (status ≡ other)
unfolding steps_of status_of out_of
ends_once p input n m out others status other one two =
    let here : run (n + m) p (begun p input) ≡ HasEnded out status n = ends_run p n (n + m) (begun p input) out status one.ends (omega arith) in
    let there : run (n + m) p (begun p input) ≡ HasEnded others other m = ends_run p m (n + m) (begun p input) others other two.ends (omega arith) in
    let same : HasEnded out status n ≡ HasEnded others other m = sym here ∙ there in
    (ap steps_of same, ap out_of same, ap status_of same)
