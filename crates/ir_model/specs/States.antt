-- The states of a program.
use Rattle.std.specs.Prelude.{ℕ, suc, ◌-◌, List, [], ◌∷◌, ◌++◌, map, length, replicate, Option, Some, None, slice_get, slice_set, slice_index_or}
use Rattle.ir_model.specs.declared.Why.{Why}
use Rattle.ir_model.specs.Values.{Value, Poison, MemoryBlock, null_block, live_block}
use Rattle.ir_model.specs.Programs.{Operand, Local, Fixed, Instruction, Program, function_at, block_in}

-- a function that has been entered and hasn't returned: where it stands, its values by number, and the blocks of memory that it has made
pub record Activation : Type 0 where
  pub function : ℕ
  pub block : ℕ
  pub position : ℕ
  pub values : List Value
  pub owned : List ℕ

-- a state: the activations, the innermost first, memory, the bytes of the input that are not read yet, and the output so far. An activation
-- that waits for another stands at its call
pub record State : Type 0 where
  pub stack : List Activation
  pub memory : List MemoryBlock
  pub input : List ℕ
  pub out : List ℕ

-- what a step comes to: the next state, the end of the program with a status, or no meaning
pub data StepResult : Type 0 where
  Continues : (state : State) → StepResult
  Ends : (status : ℕ) → StepResult
  Undefined : (why : Why) → StepResult

-- the value of an operand, by the values of an activation
abbrev pub value_of : List Value → Operand → Value
value_of values (Local id) = slice_index_or values id Poison
value_of values (Fixed v) = v

-- the instruction at which an activation stands
abbrev pub instruction_at : Program → Activation → Option Instruction
instruction_at p a = slice_get (block_in p a.function a.block).body a.position

-- values after an instruction gave one, if it gives one
abbrev pub with_value : List Value → Option ℕ → Value → List Value
with_value values None v = values
with_value values (Some id) v = slice_set values id v

-- an activation after its instruction, which may have given a value
abbrev pub after : Option ℕ → Value → Activation → Activation
after result v a = record a { values = with_value a.values result v; position = suc a.position }

-- a state in which the innermost activation has gone on
abbrev pub goes_on : Activation → List Activation → State → StepResult
goes_on a rest s = Continues (record s { stack = a ∷ rest })

-- a function as it is entered: the arguments, and then poison for each value that is to come ("call")
abbrev pub entered : Program → ℕ → List Value → Activation
entered p f arguments = record {
  function = f;
  block = 0;
  position = 0;
  values = arguments ++ replicate ((function_at p f).values - length arguments) Poison;
  owned = [];
}

-- the state in which a program starts on an input: `main` is entered, null is block 0, and the globals are the blocks after it
abbrev pub begun : Program → List ℕ → State
begun p input = record { stack = entered p p.main [] ∷ []; memory = null_block ∷ map live_block p.globals; input = input; out = [] }
