use Rattle.std.proofs.Common.{List, map, refl, subst}
use Rattle.std.specs.Prelude.{◌↔◌, IsTrue}
use Rattle.std.specs.List.{AllByRecursion}
use Rattle.ir_tree.specs.Shape.{ParamShape}
use Rattle.ir_tree.specs.ShapeOf.{param_shape}
use Rattle.ir_tree.specs.declared.module.Param.{Param}
use Rattle.ir_rules.specs.Constants.{IsScalar}
use Rattle.ir_types.proofs.Joined.{two_then, two_else}
use Rattle.ir_types.proofs.declares.is_proper_head.Goals as goal

pub returns-then-is_returned : goal.returns-then-is_returned
returns-then-is_returned c names =
    two_then _ _ c.is_returned.result c.have_scalars.result _ c.if-is_returned.true refl (c.is_returned.ensures names)
    (subst (λ (z : List Param). IsTrue c.have_scalars.result ↔ AllByRecursion (λ (p : ParamShape). IsScalar p.ty) (map (param_shape names) z)) c.deref.ensures.value
    (c.have_scalars.ensures names))

pub returns-else-is_returned : goal.returns-else-is_returned
returns-else-is_returned c names = two_else _ _ c.is_returned.result _ c.if-is_returned.false refl (c.is_returned.ensures names)
