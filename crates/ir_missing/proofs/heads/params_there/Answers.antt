use Rattle.std.proofs.Common.{refl}
use Rattle.ir_tree.specs.ShapeOf.{param_shape}
use Rattle.ir_tree.specs.Known.{param_known}
use Rattle.ir_tree.proofs.Grows.{and_left}
use Rattle.ir_rules.specs.Uses.{ty_uses}
use Rattle.ir_missing.specs.Tells.{Outside}
use Rattle.ir_missing.proofs.Telling.{tells_same, rest_next, rest_stops, rest_ends}
use Rattle.ir_missing.proofs.heads.params_there.Goals as goal

pub loop-param-preserved : goal.loop-param-preserved
loop-param-preserved c =
    rest_next (Outside _) param_known param_shape (λ p. ty_uses p.ty) _ c.loop-param.param-index c.param-item.result _ c.loop-param-test.true c.param-item.is
    (tells_same c.ty_there.ensures (λ n h. and_left _ _ h) (λ names. refl)) c.if-not-ty_there.false c.loop-param.invariant

pub returns-then-not-ty_there : goal.returns-then-not-ty_there
returns-then-not-ty_there c =
    rest_stops (Outside _) param_known param_shape (λ p. ty_uses p.ty) _ c.loop-param.param-index c.param-item.result _ c.loop-param-test.true c.param-item.is
    (tells_same c.ty_there.ensures (λ n h. and_left _ _ h) (λ names. refl)) c.if-not-ty_there.true c.loop-param.invariant

pub returns : goal.returns
returns c = rest_ends (Outside _) param_known param_shape (λ p. ty_uses p.ty) _ c.loop-param.param-index c.loop-param-test.false c.loop-param.invariant
