-- A run, of which some steps are done.
use Rattle.std.proofs.Common.{◌≡◌, ◌<◌, ◌≤◌, ◌+◌, ◌-◌, ℕ, zero, suc, List, [], ◌∷◌, get_or, arith, refl, ap, ap₂, sym, subst, ◌∙◌}
use Rattle.std.specs.List.{AllByRecursion}
use Rattle.ir_model.specs.declared.Why.{Why}
use Rattle.ir_model.specs.Values.{MemoryBlock}
use Rattle.ir_model.specs.Programs as programs
use Rattle.ir_model.specs.States.{State, StepResult, Continues, Ends, Undefined, begun}
use Rattle.ir_model.specs.Steps.{step}
use Rattle.ir_model.specs.Runs.{Outcome, HasEnded, IsUndefined, StepsOver, one_more, followed, run}
use Rattle.ir_typed_runs.specs.Invariants.{AreBytes}
use Rattle.ir_typed_runs.specs.TypedPrograms.{FunctionKinds, IsTyped}
use Rattle.ir_typed_runs.specs.TypedStates.{IsTypedState}
use Rattle.ir_typed_runs.proofs.Steps.{typed_stays}
use Rattle.ir_placed_runs.specs.OwnedBlocks.{HasOwnBlocks}
use Rattle.ir_placed_runs.proofs.Owned.{owns_stays}
use Rattle.mem_cells.specs.Shown.{Shows}
use Rattle.program_tables.specs.declared.program.Program.{Program}
use Rattle.program_tables.specs.Shapes.{program_shape}
use Rattle.ir_eval.specs.declared.machine.Machine.{Machine}
use Rattle.ir_eval.specs.Shapes.{state_of}
use Rattle.ir_eval.specs.Outcomes.{first_memory}
use Rattle.ir_eval.specs.Ready.{IsReady}

-- what a run comes to that has so many steps more before it
abbrev pub later : ℕ → Outcome → Outcome
later k (HasEnded out status steps) = HasEnded out status (k + steps)
later k (IsUndefined cause out) = IsUndefined cause out
later k (StepsOver out) = StepsOver out

later_none : (o : Outcome) → o ≡ later 0 o
later_none (HasEnded out status steps) = ap (HasEnded out status) (let e : steps ≡ 0 + steps = omega arith in e)
later_none (IsUndefined cause out) = refl
later_none (StepsOver out) = refl

later_more : (k : ℕ) (o : Outcome) → later k (one_more o) ≡ later (k + 1) o
later_more k (HasEnded out status steps) = ap (HasEnded out status) (let e : k + suc steps ≡ k + 1 + steps = omega arith in e)
later_more k (IsUndefined cause out) = refl
later_more k (StepsOver out) = refl

-- the whole run is so many steps and then the run from a state that is ready
pub record HasRun (p : Program) (input : List ℕ) (steps done : ℕ) (m : Machine) : Type 0 where
  pub ready : IsReady p input m
  pub so_far : run steps (program_shape p) (begun (program_shape p) input)
      ≡ later done (run (steps - done) (program_shape p) (state_of input ready.memory m))

-- bytes are below 256
pub are_bytes : (input : List ℕ) → ((i : ℕ) → get_or input i 0 < 256) → AreBytes input
are_bytes [] each = tt
are_bytes (c ∷ cs) each = (each 0, are_bytes cs (λ i. each (suc i)))

-- at the start
pub has_begun : (p : Program) (kinds : List FunctionKinds) (input : List ℕ) (steps : ℕ) (m : Machine) → IsTyped (program_shape p) kinds → AreBytes input
    → Shows (first_memory (program_shape p)) m.mem → state_of input (first_memory (program_shape p)) m ≡ begun (program_shape p) input
    → HasRun p input steps 0 m
has_begun p kinds input steps m typed bytes shows is =
    let s : State = begun (program_shape p) input in
    record {
      ready = record {
        kinds = kinds;
        typed = typed;
        memory = first_memory (program_shape p);
        shown = shows;
        state = subst (IsTypedState (program_shape p) kinds) (sym is) ((typed_stays (program_shape p) kinds typed).begins input bytes);
        owned = subst (HasOwnBlocks (program_shape p)) (sym is) ((owns_stays (program_shape p)).begins input bytes);
      };
      so_far = later_none (run steps (program_shape p) s)
          ∙ ap₂ (λ (n : ℕ) (t : State). later 0 (run n (program_shape p) t)) (let e : steps ≡ steps - 0 = omega arith in e) (sym is);
    }

module _ (p : Program) (input : List ℕ) (steps done : ℕ) (m : Machine) (has : HasRun p input steps done m) (lt : done < steps) where
  here : State
  here = state_of input has.ready.memory m

  -- the next step of the run
  next_step : run (steps - done) (program_shape p) (state_of input has.ready.memory m)
      ≡ followed (step (program_shape p) (state_of input has.ready.memory m)) m.output.items
      (run (steps - (done + 1)) (program_shape p))
  unfolding run
  next_step = ap (λ (n : ℕ). run n (program_shape p) (state_of input has.ready.memory m))
      (let e : steps - done ≡ suc (steps - (done + 1)) = omega arith in e)

  -- after a step
  pub has_gone : (memory : List MemoryBlock) (new : Machine)
      → step (program_shape p) (state_of input has.ready.memory m) ≡ Continues (state_of input memory new) → Shows memory new.mem
      → HasRun p input steps (done + 1) new
  has_gone memory new is shows =
      let P : programs.Program = program_shape p in
      let s : State = state_of input has.ready.memory m in
      let t : State = state_of input memory new in
      record {
        ready = record {
          kinds = has.ready.kinds;
          typed = has.ready.typed;
          memory = memory;
          shown = shows;
          state = (typed_stays P has.ready.kinds has.ready.typed).stays s t has.ready.state is;
          owned = (owns_stays P).stays s t has.ready.owned is;
        };
        so_far = has.so_far ∙ ap (later done) (next_step ∙ ap (λ r. followed r m.output.items (run (steps - (done + 1)) P)) is)
            ∙ later_more done (run (steps - (done + 1)) P t);
      }

  -- at the end
  pub has_ended : (status : ℕ) (out : List ℕ) → step (program_shape p) (state_of input has.ready.memory m) ≡ Ends status → out ≡ m.output.items
      → HasEnded out status (done + 1) ≡ run steps (program_shape p) (begun (program_shape p) input)
  has_ended status out is same =
      ap (λ (xs : List ℕ). HasEnded xs status (done + 1)) same
      ∙ sym (has.so_far ∙ ap (later done) (next_step ∙ ap (λ r. followed r m.output.items (run (steps - (done + 1)) (program_shape p))) is))

  -- where there is no meaning
  pub has_no_meaning : (cause : Why) (out : List ℕ) → step (program_shape p) (state_of input has.ready.memory m) ≡ Undefined cause → out ≡ m.output.items
      → IsUndefined cause out ≡ run steps (program_shape p) (begun (program_shape p) input)
  has_no_meaning cause out is same =
      ap (IsUndefined cause) same
      ∙ sym (has.so_far ∙ ap (later done) (next_step ∙ ap (λ r. followed r m.output.items (run (steps - (done + 1)) (program_shape p))) is))

-- where the steps are over
pub has_no_steps : (p : Program) (input : List ℕ) (steps done : ℕ) (m : Machine) → HasRun p input steps done m → steps ≤ done
    → StepsOver m.output.items ≡ run steps (program_shape p) (begun (program_shape p) input)
unfolding run
has_no_steps p input steps done m has past =
    sym (has.so_far ∙ ap (λ (n : ℕ). later done (run n (program_shape p) (state_of input has.ready.memory m))) (let e : steps - done ≡ 0 = omega arith in e))
