-- What a step of the code comes to.
use Rattle.std.specs.Prelude.{◌≡◌, ℕ, List}
use Rattle.ir_model.specs.Values.{MemoryBlock}
use Rattle.ir_model.specs.States as model
use Rattle.mem_cells.specs.Shown.{Shows}
use Rattle.ir_eval.specs.declared.outcome.Turn.{Turn}
use Rattle.ir_eval.specs.declared.outcome.Turn.TheVariants.{Goes, Ends, Undefined}
use Rattle.ir_eval.specs.declared.machine.Machine.{Machine}
use Rattle.ir_eval.specs.Shapes.{activation_shape, below, state_of}

-- a turn is what a step of the definitions comes to: it leaves the next state, or it is the end or has no meaning, and then the output
-- is as before
abbrev pub IsTurn : List ℕ → Turn → model.StepResult → List ℕ → Machine → Type 0
IsTurn input Goes r out new = (memory : List MemoryBlock) × (r ≡ model.Continues (state_of input memory new)) × Shows memory new.mem
IsTurn input (Ends status) r out new = (r ≡ model.Ends status) × (new.output.items ≡ out)
IsTurn input (Undefined cause) r out new = (r ≡ model.Undefined cause) × (new.output.items ≡ out)

-- a turn with which nothing goes on is what a step comes to
abbrev pub IsEnd : Turn → model.StepResult → Type 0
IsEnd Goes r = ⊥
IsEnd (Ends status) r = r ≡ model.Ends status
IsEnd (Undefined cause) r = r ≡ model.Undefined cause

-- a turn is what something does with the innermost activation, those below it and the state
abbrev pub Does : Turn → Machine → Machine → (model.Activation → List model.Activation → model.State → model.StepResult) → Type 0
Does turn old new doing = (input : List ℕ) (memory : List MemoryBlock) → Shows memory old.mem
    → IsTurn input turn (doing (activation_shape old.current) (below old) (state_of input memory old)) old.output.items new
