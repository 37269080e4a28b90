-- What is around an instruction.
use Rattle.std.specs.Prelude.{◌≡◌, ℕ, true, List, length}
use Rattle.std.specs.List.{AllByRecursion}
use Rattle.ir_tree.specs.ShapeOf.{function_shape, ty_val_shape}
use Rattle.ir_tree.specs.Known.{function_known}
use Rattle.ir_tree.specs.declared.module.TyVal.{TyVal}
use Rattle.ir_rules.specs.Instructions.{Around as Surroundings, Fits, IsWellTyped}
use Rattle.ir_names.specs.Tables.{AreNamesIn}
use Rattle.program_steps.specs.Steps.{names_of}
use Rattle.program_consts.specs.Constants.{AreConstants, shape_of}
use Rattle.program_actions.specs.declared.around.Around.{Around}

-- the names of the module
abbrev pub names_around : Around → List (List ℕ)
names_around a = names_of a.constants.now.steps

-- the module and the function
abbrev pub around_of : Around → Surroundings
around_of a = record { within = shape_of a.constants.now; function = function_shape (names_around a) a.function.now }

-- each instruction of the function is well typed
abbrev pub AreWellTyped : Surroundings → Type 0
AreWellTyped a = AllByRecursion (λ b. AllByRecursion (λ x. IsWellTyped a x.body) b.insts) a.function.blocks

-- the tables are those of the module and of the function, whose instructions are well typed
pub record IsAround (a : Around) : Type 0 where
  pub constants : AreConstants a.constants.now
  pub names : AreNamesIn (names_around a) a.function.now a.values.now
  pub known : function_known (length (names_around a)) a.function.now ≡ true
  pub typed : AreWellTyped (around_of a)

-- each operand has the type that is stated with it
abbrev pub AllFit : Around → List TyVal → Type 0
AllFit a row = AllByRecursion (λ x. Fits (around_of a) (ty_val_shape (names_around a) x)) row
