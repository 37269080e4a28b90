use Rattle.std.proofs.Common.{◌≡◌, ℕ, Some, length, slice_get}
use Rattle.ir_tree.specs.declared.module.Function.{Function}
use Rattle.ir_names.specs.Tables.{FunctionTable, AreNamesIn}
use Rattle.ir_names.proofs.scopes.names_of_functions.Given as goal

abbrev pub invariant-loop-f : goal.invariant-loop-f
invariant-loop-f l = record {
  long : length l.tables.items ≡ l.f-index;
  each :
      (k : ℕ) (f : Function) (t : FunctionTable) → slice_get l.m.functions.items k ≡ Some f → slice_get l.tables.items k ≡ Some t
      → AreNamesIn l.m.names f t;
}
