-- What is around the instructions of a function of a module that was read.
use Rattle.std.specs.Prelude.{◌≡◌, ℕ, Some, slice_get}
use Rattle.ir_tree.specs.declared.parsed.Parsed.{Parsed}
use Rattle.ir_check_insts.specs.declared.around.Around.{Around}

-- it is the module, and the function of this number
pub record IsAroundIn (p : Parsed) (k : ℕ) (a : Around) : Type 0 where
  pub within : a.module.now ≡ p.«module»
  pub function : slice_get p.«module».functions.items k ≡ Some a.function.now
