-- Where a program begins, among functions.
use Rattle.std.specs.Prelude.{◌≡◌, ℕ, List, Some, slice_get}
use Rattle.ir_tree.specs.Shape.{FunctionShape}
use Rattle.ir_proper.specs.Proper.{IsMain}

-- one of the functions is where a program begins
abbrev pub SomeIsMain : List FunctionShape → Type 0
SomeIsMain functions = (k : ℕ) × (f : FunctionShape) × (slice_get functions k ≡ Some f) × IsMain f
