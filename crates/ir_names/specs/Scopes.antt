-- What the tables of all names of a module have.
use Rattle.std.specs.Prelude.{◌≡◌, ℕ, List, length, Some, slice_get}
use Rattle.ir_tree.specs.declared.module.Function.{Function}
use Rattle.ir_tree.specs.declared.module.Module.{Module}
use Rattle.ir_names.specs.Tables.{FunctionTable, AreNamesOf, AreNamesIn}
use Rattle.ir_names.specs.declared.scopes.Scopes.{Scopes}

-- there is a table for each function, by number
pub record AreNamesInAll (m : Module) (tables : List FunctionTable) : Type 0 where
  pub long : length tables ≡ length m.functions.items
  pub each : (k : ℕ) (f : Function) (t : FunctionTable) → slice_get m.functions.items k ≡ Some f → slice_get tables k ≡ Some t → AreNamesIn m.names f t

-- tables say what all names of a module stand for
pub record AreScopesOf (m : Module) (s : Scopes) : Type 0 where
  pub outside : AreNamesOf m s.«module»
  pub inside : AreNamesInAll m s.functions.items
