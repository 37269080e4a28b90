use Rattle.std.proofs.Common.{List, map, subst}
use Rattle.std.specs.Prelude.{◌↔◌, IsTrue}
use Rattle.std.specs.List.{AllByRecursion}
use Rattle.ir_tree.specs.ShapeOf.{ty_shape}
use Rattle.ir_tree.specs.declared.types.Ty.{Ty}
use Rattle.ir_rules.specs.Constants.{IsScalar}
use Rattle.ir_types.proofs.Joined.{two_then, two_else, three_then, three_else}
use Rattle.ir_types.proofs.declares.is_proper_declare.Goals as goal
use Rattle.ir_types.proofs.declares.is_proper_declare.Goals.{then-is_returned, else-is_returned}

pub returns-then-are_scalar : goal.returns-then-are_scalar
returns-then-are_scalar c =
    let names = c.args.names.now in
    three_then _ _ _ c.if-is_returned.value c.has_outside_types.result c.if-are_scalar.true
    (elim c.if-is_returned.branch [
      | then-is_returned w ↦ two_then _ _ c.is_returned.result w.are_scalar.result _ w.if-is_returned.true w.value-is (c.is_returned.ensures names)
          (subst (λ (z : List Ty). IsTrue w.are_scalar.result ↔ AllByRecursion IsScalar (map (ty_shape names) z)) w.deref.ensures.value (w.are_scalar.ensures names))
      | else-is_returned w ↦ two_else _ _ c.is_returned.result _ w.if-is_returned.false w.value-is (c.is_returned.ensures names)
    ])
    c.has_outside_types.ensures

pub returns-else-are_scalar : goal.returns-else-are_scalar
returns-else-are_scalar c =
    let names = c.args.names.now in
    three_else _ _ _ c.if-is_returned.value c.if-are_scalar.false
    (elim c.if-is_returned.branch [
      | then-is_returned w ↦ two_then _ _ c.is_returned.result w.are_scalar.result _ w.if-is_returned.true w.value-is (c.is_returned.ensures names)
          (subst (λ (z : List Ty). IsTrue w.are_scalar.result ↔ AllByRecursion IsScalar (map (ty_shape names) z)) w.deref.ensures.value (w.are_scalar.ensures names))
      | else-is_returned w ↦ two_else _ _ c.is_returned.result _ w.if-is_returned.false w.value-is (c.is_returned.ensures names)
    ])
