use Rattle.std.proofs.Common.{ℤ, false, Option, map, refl, sym, ◌∙◌, subst}
use Rattle.ir_tree.specs.Shape.{TyShape, typed_row}
use Rattle.ir_tree.specs.ShapeOf.{module_shape, ty_shape, const_shape, typed_shape}
use Rattle.ir_type_tests.proofs.Both.{never}
use Rattle.ir_rules.specs.Constants.{StepsBy, Walks, row_numbers}
use Rattle.ir_check_consts.proofs.Shapes.{typed_is}
use Rattle.ir_check_consts.proofs.Walking.{walk_next, walk_fails, walk_ends, number_is}
use Rattle.ir_check_consts.proofs.indices.walks.Goals as goal

pub loop-index-init : goal.loop-index-init
loop-index-init c = (c.requires.known, ((λ walks. walks), λ walks. walks))

pub returns-in-None : goal.returns-in-None
returns-in-None c =
    let m = c.args.m.now in
    let v = c.index-item.result in
    let W = Walks (module_shape m).types (ty_shape m.names c.args.ty.now) (row_numbers (typed_row (map (typed_shape m.names) c.args.indices.now))) in
    let number = c.const_number.ensures m.names ∙ sym (number_is (typed_shape m.names v) (ty_shape m.names v.ty) (const_shape m.names v.value) (typed_is m.names v)) in
    never W false refl
    (walk_fails (module_shape m).types (typed_shape m.names) c.args.indices.now c.loop-index.index-index v (ty_shape m.names c.loop-index.at.now)
    c.loop-index-test.true (sym c.index-item.is)
    (subst (λ (z : Option ℤ). (u : TyShape) → StepsBy (module_shape m).types z (ty_shape m.names c.loop-index.at.now) u → ⊥) number c.in-None.ensures.none)
    W c.loop-index.invariant.1)

pub loop-index-preserved : goal.loop-index-preserved
loop-index-preserved c =
    let m = c.args.m.now in
    let v = c.index-item.result in
    let W = Walks (module_shape m).types (ty_shape m.names c.args.ty.now) (row_numbers (typed_row (map (typed_shape m.names) c.args.indices.now))) in
    let number = c.const_number.ensures m.names ∙ sym (number_is (typed_shape m.names v) (ty_shape m.names v.ty) (const_shape m.names v.value) (typed_is m.names v)) in (
      c.in-Some.ensures.known,
      walk_next (module_shape m).types (typed_shape m.names) c.args.indices.now c.loop-index.index-index v (ty_shape m.names c.loop-index.at.now) (ty_shape m.names c.in-Some.inner.now)
          c.loop-index-test.true (sym c.index-item.is)
          (subst (λ (z : Option ℤ). StepsBy (module_shape m).types z (ty_shape m.names c.loop-index.at.now) (ty_shape m.names c.in-Some.inner.now)) number c.in-Some.ensures.steps)
          W c.loop-index.invariant.1,
    )

pub returns : goal.returns
returns c =
    let m = c.args.m.now in
    let W = Walks (module_shape m).types (ty_shape m.names c.args.ty.now) (row_numbers (typed_row (map (typed_shape m.names) c.args.indices.now))) in (
      λ yes. walk_ends (module_shape m).types (typed_shape m.names) c.args.indices.now c.loop-index.index-index (ty_shape m.names c.loop-index.at.now)
          c.loop-index-test.false W c.loop-index.invariant.1,
      λ walks. refl,
    )
