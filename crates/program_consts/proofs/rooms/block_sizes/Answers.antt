use Rattle.std.proofs.Common.{◌≤◌, ℕ, List, [], ◌∷◌, ◌++◌, length, sym, ap₂, subst, ◌∙◌}
use Rattle.ir_tree.specs.ShapeOf.{global_shape}
use Rattle.ir_tree.specs.declared.module.GlobalItem.{GlobalItem}
use Rattle.ir_layout.specs.declared.sizes.Layout.{Layout}
use Rattle.program_consts.proofs.Sized.{global_at, known_at, sizes_more, sizes_all}
use Rattle.program_consts.proofs.rooms.block_sizes.Goals as goal

pub layout_of-requires-clause-names : goal.layout_of-requires-clause-names
layout_of-requires-clause-names c =
    let m = c.args.steps.now.«module».now in
    (known_at m c.loop-global.global-index c.global-item.result c.requires.steps.known
    (global_at m c.deref-global-items.result.now c.loop-global.global-index c.global-item.result c.loop-global.invariant.0 c.loop-global-test.true (sym c.global-item.is)))

pub layout_of-requires-clause-sized : goal.layout_of-requires-clause-sized
layout_of-requires-clause-sized c =
    let m = c.args.steps.now.«module».now in
    c.requires.sized c.loop-global.global-index (global_shape m.names c.global-item.result)
    (global_at m c.deref-global-items.result.now c.loop-global.global-index c.global-item.result c.loop-global.invariant.0 c.loop-global-test.true (sym c.global-item.is)).shape

pub loop-global-preserved : goal.loop-global-preserved
loop-global-preserved c =
    let m = c.args.steps.now.«module».now in (
      c.loop-global.invariant.0,
      c.in_ok-push-2.ensures.items
          ∙ ap₂ (λ (z : List ℕ) (l : Layout). z ++ l.size ∷ []) c.loop-global.invariant.1 c.layout_of.ensures
          ∙ sizes_more m c.loop-global.global-index c.global-item.result
          (global_at m c.deref-global-items.result.now c.loop-global.global-index c.global-item.result c.loop-global.invariant.0 c.loop-global-test.true (sym c.global-item.is)),
    )

pub returns : goal.returns
returns c =
    let m = c.args.steps.now.«module».now in
    c.loop-global.invariant.1
    ∙ sizes_all m c.loop-global.global-index
    (subst (λ (z : List GlobalItem). length z ≤ c.loop-global.global-index) c.loop-global.invariant.0 c.loop-global-test.false)
