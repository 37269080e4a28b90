use Rattle.ir_tree.specs.ShapeOf.{typed_shape}
use Rattle.ir_tree.specs.Known.{typed_known}
use Rattle.ir_rules.specs.Uses.{typed_uses}
use Rattle.ir_missing.specs.Tells.{Outside}
use Rattle.ir_missing.proofs.Telling.{RestTells}
use Rattle.ir_missing.proofs.constants.+constants.Given as goal

abbrev pub invariant-values_there-loop-typed : goal.invariant-values_there-loop-typed
invariant-values_there-loop-typed l = RestTells (Outside l.outside) typed_known typed_shape typed_uses l.values l.typed-index
