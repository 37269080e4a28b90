-- What a machine reports of a step.
use Rattle.std.specs.Prelude.{◌≡◌, ◌<◌, length}
use Rattle.rv_machine.specs.declared.processor.Tick.{Tick}
use Rattle.rv_machine.specs.declared.processor.Tick.TheVariants.{Went, Ended, Trapped}
use Rattle.rv_model.specs.State.{MachineState}
use Rattle.rv_model.specs.Step.{StepResult, Continues, Ends, Traps}

-- the step gave this from the old state, and left the new one: where it ended or trapped nothing changed
abbrev pub IsTick : Tick → StepResult → MachineState → MachineState → Type 0
IsTick Went step old new = step ≡ Continues new
IsTick (Ended status) step old new = (step ≡ Ends status) × (new ≡ old)
IsTick (Trapped pc cause) step old new = (step ≡ Traps pc cause) × (new ≡ old)

-- the step would put bytes out
abbrev pub PutsOut : StepResult → MachineState → Type 0
PutsOut (Continues new) old = length old.out < length new.out
PutsOut (Ends status) old = ⊥
PutsOut (Traps pc cause) old = ⊥
