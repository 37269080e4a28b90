-- What a module means.
use Rattle.std.specs.Prelude.{ℕ, List}
use Rattle.ir_tree.specs.Shape.{ModuleShape}
use Rattle.ir_program.specs.ProgramOf.{program_of}
use Rattle.ir_model.specs.States.{begun}
use Rattle.ir_model.specs.Runs.{Outcome, run}

-- what the program of a module comes to on an input, in at most so many steps
abbrev pub module_run : ModuleShape → List ℕ → ℕ → Outcome
module_run m input steps = run steps (program_of m) (begun (program_of m) input)
