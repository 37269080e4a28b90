use Rattle.ir_tree.specs.ShapeOf.{param_shape}
use Rattle.ir_tree.specs.Known.{param_known}
use Rattle.ir_rules.specs.Uses.{ty_uses}
use Rattle.ir_missing.specs.Tells.{Outside}
use Rattle.ir_missing.proofs.Telling.{RestTells}
use Rattle.ir_missing.proofs.heads.params_there.Given as goal

abbrev pub invariant-loop-param : goal.invariant-loop-param
invariant-loop-param l = RestTells (Outside l.outside) param_known param_shape (λ p. ty_uses p.ty) l.params l.param-index
