use Rattle.std.proofs.Common.{◌<◌, List, length, get_or, refl, ◌∙◌, ap, subst}
use Rattle.ir_tree.specs.ShapeOf.{global_shape, module_shape}
use Rattle.ir_tree.specs.declared.module.GlobalItem.{GlobalItem}
use Rattle.ir_layout.specs.Layout.{next_multiple}
use Rattle.ir_proper.specs.Limits.{capped}
use Rattle.ir_limits.specs.Globals.{GlobalTakes}
use Rattle.ir_limits.proofs.Relations.{each_has, sum_more}
use Rattle.ir_limits.proofs.globals.room_of_globals.Goals as goal

pub size_in-size-requires-clause-sized : goal.size_in-size-requires-clause-sized
size_in-size-requires-clause-sized c =
    let m = c.args.m.now in
    let at = c.loop-g.g-index in
    let g = c.g-item.result in
    let same = c.deref-g-items.ensures.value in
    let within = subst (λ (gs : List GlobalItem). at < length gs) same c.loop-g-test.true in
    let item = c.g-item.is ∙ ap (λ (gs : List GlobalItem). get_or gs at g) same in
    let has = each_has (GlobalTakes (module_shape m).types) (global_shape m.names) m.globals.items at g within item c.requires.sized in (has.1.0, has.1.1)

pub loop-g-preserved : goal.loop-g-preserved
loop-g-preserved c =
    let m = c.args.m.now in
    let ts = (module_shape m).types in
    let at = c.loop-g.g-index in
    let g = c.g-item.result in
    let same = c.deref-g-items.ensures.value in
    let within = subst (λ (gs : List GlobalItem). at < length gs) same c.loop-g-test.true in
    let item = c.g-item.is ∙ ap (λ (gs : List GlobalItem). get_or gs at g) same in
    let has = each_has (GlobalTakes ts) (global_shape m.names) m.globals.items at g within item c.requires.sized in
    let told = c.rounded_up.ensures ∙ ap (λ n. capped (next_multiple 16 n)) (c.size_in-size.ensures has.1.0 has.1.1) in
    sum_more (GlobalTakes ts) (global_shape m.names) m.globals.items at g c.loop-g.total c.rounded_up.result c.saturating_add-total.result within item
    c.loop-g.invariant (next_multiple 16 has.1.0.size, (has.1.0, has.1.1, refl), told) c.saturating_add-total.ensures
