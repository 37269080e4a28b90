-- That no instruction of a program calls a function, and which function of a module is `main`.
use Rattle.std.specs.Prelude.{◌≡◌, ◌≢◌, ℕ, Some, slice_get}
use Rattle.std.specs.List.{AllByRecursion}
use Rattle.ir_tree.specs.Shape.{FunctionShape, ModuleShape}
use Rattle.ir_model.specs.Programs.{Call, Program}
use Rattle.ir_proper.specs.Proper.{IsMain}
use Rattle.ir_program.specs.ProgramOf.{program_of}

-- no instruction of a program calls the function of a number
abbrev pub IsNeverCalled : Program → ℕ → Type 0
IsNeverCalled p g = AllByRecursion (λ f. AllByRecursion (λ b. AllByRecursion (λ x. x.action ≢ Call g) b.body) f.blocks) p.functions

-- the function that the program of a module begins with is there, and it is `main`
pub record BeginsAtMain (m : ModuleShape) : Type 0 where
  pub function : FunctionShape
  pub there : slice_get m.functions (program_of m).main ≡ Some function
  pub is_main : IsMain function
