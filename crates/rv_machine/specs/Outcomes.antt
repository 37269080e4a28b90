-- What a run came to.
use Rattle.std.specs.Prelude.{◌≡◌}
use Rattle.rv_machine.specs.declared.runner.Outcome.{Outcome}
use Rattle.rv_machine.specs.declared.runner.Outcome.TheVariants.{Ended, Trap, StepsOver}
use Rattle.rv_model.specs.State.{MachineState}
use Rattle.rv_model.specs.Run.{RunResult, HasEnded, HasTrapped, GoesOn}

-- the run ended so, trapped so, or still goes on, from a state with this output
abbrev pub IsOutcome : Outcome → RunResult → Type 0
IsOutcome (Ended out status steps) run = run ≡ HasEnded out status steps
IsOutcome (Trap pc cause out) run = run ≡ HasTrapped pc cause out
IsOutcome (StepsOver out) run = (state : MachineState) × (run ≡ GoesOn state) × (state.out ≡ out)
