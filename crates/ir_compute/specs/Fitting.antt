-- What operations need of their operands.
use Rattle.std.specs.Prelude.{ℕ, List, ◌∷◌, drop}
use Rattle.std.specs.List.{AllByRecursion, AllZip}
use Rattle.ir_model.specs.Values.{Value}
use Rattle.ir_model.specs.Operations.{Operation, operand}
use Rattle.ir_model.specs.Pointers.{Stride}
use Rattle.ir_typed_runs.specs.Kinds.{Kind, OfWidth, OfPointer, HasWidth, IsOfKind, index_kinds, HasKinds}

-- a number of a width, or poison
abbrev pub IsInteger : ℕ → Value → Type 0
IsInteger width v = IsOfKind 0 (OfWidth width) v

-- two values of one kind, where there are so many blocks
pub record HaveOneKind (blocks : ℕ) (x y : Value) : Type 0 where
  pub kind : Kind
  pub width : HasWidth kind
  pub left : IsOfKind blocks kind x
  pub right : IsOfKind blocks kind y

-- indices with which steps fit: for each step that has one a number of its width, or poison
pub record FitsIndices (strides : List Stride) (indices : List Value) : Type 0 where
  pub widths : AllByRecursion HasWidth (index_kinds strides)
  pub operands : AllZip (IsOfKind 0) (index_kinds strides) indices

-- operands with which steps from an address fit
pub record FitsWalk (blocks : ℕ) (strides : List Stride) (vs : List Value) : Type 0 where
  pub base : IsOfKind blocks OfPointer (operand 0 vs)
  pub indices : FitsIndices strides (drop 1 vs)

-- operands with which an operation fits, where there are so many blocks: they are of the kinds that it takes, and integers have
-- 1 to 64 bits, those that it gives too
pub record FitsOperands (blocks : ℕ) (operation : Operation) (vs : List Value) : Type 0 where
  pub taken : List Kind
  pub kind : Kind
  pub kinds : HasKinds operation taken kind
  pub widths : AllByRecursion HasWidth (kind ∷ taken)
  pub operands : AllZip (IsOfKind blocks) taken vs
