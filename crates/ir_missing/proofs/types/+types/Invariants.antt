use Rattle.ir_tree.specs.ShapeOf.{ty_shape}
use Rattle.ir_tree.specs.Known.{ty_known}
use Rattle.ir_rules.specs.Uses.{ty_uses}
use Rattle.ir_missing.specs.Tells.{Outside}
use Rattle.ir_missing.proofs.Telling.{RestTells}
use Rattle.ir_missing.proofs.types.+types.Given as goal

abbrev pub invariant-tys_there-loop-ty : goal.invariant-tys_there-loop-ty
invariant-tys_there-loop-ty l = RestTells (Outside l.outside) ty_known ty_shape ty_uses l.types l.ty-index
