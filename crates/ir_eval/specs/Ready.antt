-- When a step can be taken.
use Rattle.std.specs.Prelude.{ℕ, List}
use Rattle.ir_model.specs.Values.{MemoryBlock}
use Rattle.ir_typed_runs.specs.TypedPrograms.{FunctionKinds, IsTyped}
use Rattle.ir_typed_runs.specs.TypedStates.{IsTypedState}
use Rattle.ir_placed_runs.specs.OwnedBlocks.{HasOwnBlocks}
use Rattle.mem_cells.specs.Shown.{Shows}
use Rattle.program_tables.specs.declared.program.Program.{Program}
use Rattle.program_tables.specs.Shapes.{program_shape}
use Rattle.ir_eval.specs.declared.machine.Machine.{Machine}
use Rattle.ir_eval.specs.Shapes.{state_of}

-- the program is typed, and the state is one that is typed and in which activations own their blocks, as all states of its runs are
pub record IsReady (p : Program) (input : List ℕ) (m : Machine) : Type 0 where
  pub kinds : List FunctionKinds
  pub typed : IsTyped (program_shape p) kinds
  pub memory : List MemoryBlock
  pub shown : Shows memory m.mem
  pub state : IsTypedState (program_shape p) kinds (state_of input memory m)
  pub owned : HasOwnBlocks (program_shape p) (state_of input memory m)
