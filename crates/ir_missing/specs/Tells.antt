-- That an answer tells of a part of a module whether all names that it uses stand for something.
use Rattle.std.specs.Prelude.{◌≡◌, ℕ, Bool, true, List, length, Option, Some}
use Rattle.std.specs.List.{list_all}
use Rattle.ir_tree.specs.Shape.{FunctionShape}
use Rattle.ir_tree.specs.ShapeOf.{module_shape, function_shape}
use Rattle.ir_tree.specs.declared.module.Function.{Function}
use Rattle.ir_tree.specs.declared.module.Module.{Module}
use Rattle.ir_rules.specs.Uses.{Use}
use Rattle.ir_rules.specs.Things.{is_there}
use Rattle.ir_names.specs.Tables.{ModuleTable, FunctionTable, AreNamesOf, AreNamesIn}

-- a table is that of a module
abbrev pub Outside : ModuleTable → Module → Option FunctionShape → Type 0
Outside t m f = AreNamesOf m t

-- tables are those of a module and of the function
abbrev pub Inside : ModuleTable → FunctionTable → Module → Option FunctionShape → Type 0
Inside t u m f = AreNamesOf m t × ((g : Function) × (f ≡ Some (function_shape m.names g)) × AreNamesIn m.names g u)

-- the answer is whether each of the uses stands for something, in a function or outside of all, where the tables are those of the module and
-- its numbers of names are known
pub record Tells (Fit : Module → Option FunctionShape → Type 0) (known : ℕ → Bool) (uses : List (List ℕ) → List Use) (answer : Bool) : Type 0 where
  pub tells : (m : Module) (f : Option FunctionShape) → Fit m f → known (length m.names) ≡ true → answer ≡ list_all (is_there (module_shape m) f) (uses m.names)
