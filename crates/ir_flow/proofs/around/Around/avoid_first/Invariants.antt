use Rattle.std.proofs.Common.{◌≡◌, Some}
use Rattle.ir_tree.specs.ShapeOf.{name_shape}
use Rattle.ir_rules.specs.Values.{block_of}
use Rattle.ir_flow.specs.Around.{names_of, function_of}
use Rattle.ir_flow.proofs.OneByOne.{Hold}
use Rattle.ir_flow.proofs.around.Around.avoid_first.Given as goal

abbrev pub invariant-loop-label : goal.invariant-loop-label
invariant-loop-label l = Hold (λ id. block_of (function_of l.self) (name_shape (names_of l.self) id) ≡ Some 0 → ⊥) l.labels l.label-index
