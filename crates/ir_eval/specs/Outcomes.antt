-- What runs come to.
use Rattle.std.specs.Prelude.{ℕ, List, ◌∷◌, map}
use Rattle.ir_model.specs.Values.{MemoryBlock, null_block, live_block}
use Rattle.ir_model.specs.Programs.{Program}
use Rattle.ir_model.specs.Runs as model
use Rattle.ir_eval.specs.declared.outcome.Outcome.{Outcome}
use Rattle.ir_eval.specs.declared.outcome.Outcome.TheVariants.{Ended, Undefined, StepsOver}

-- what a run came to
abbrev pub outcome_shape : Outcome → model.Outcome
outcome_shape (Ended output status steps) = model.HasEnded output.items status steps
outcome_shape (Undefined why output) = model.IsUndefined why output.items
outcome_shape (StepsOver output) = model.StepsOver output.items

-- memory at the start of a run: null, and the globals
abbrev pub first_memory : Program → List MemoryBlock
first_memory p = null_block ∷ map live_block p.globals
