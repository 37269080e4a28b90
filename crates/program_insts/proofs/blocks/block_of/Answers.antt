use Rattle.std.proofs.Common.{◌≡◌, ◌+◌, arith, map, drop, sym, ap, ◌∙◌}
use Rattle.ir_tree.specs.ShapeOf.{inst_shape}
use Rattle.ir_rules.specs.Instructions.{IsWellTyped}
use Rattle.program_actions.specs.Around.{around_of, names_around}
use Rattle.program_insts.specs.Numbers.{next_by, after}
use Rattle.program_insts.proofs.Counted.{after_grows}
use Rattle.program_insts.proofs.SoFar.{item_of, rest_at, mapped_one}
use Rattle.program_insts.proofs.blocks.block_of.Goals as goal

pub push_next-requires-clause-proper : goal.push_next-requires-clause-proper
push_next-requires-clause-proper c =
    let at = item_of c.args.source.now.insts.items c.deref-inst-items.result.now c.loop-inst.inst-index c.inst-item.result c.deref-inst-items.ensures.value c.loop-inst-test.true c.inst-item.is in
    let a = c.args.around.now in
    mapped_one (inst_shape (names_around a)) (λ x. IsWellTyped (around_of a) x.body) c.args.source.now.insts.items c.loop-inst.inst-index c.inst-item.result
    c.requires.proper at.0 at.1

pub push_next-requires-clause-room : goal.push_next-requires-clause-room
push_next-requires-clause-room c =
    let at = item_of c.args.source.now.insts.items c.deref-inst-items.result.now c.loop-inst.inst-index c.inst-item.result c.deref-inst-items.ensures.value c.loop-inst-test.true c.inst-item.is in
    let names = names_around c.args.around.now in
    let insts = c.args.source.now.insts.items in
    let k = c.loop-inst.inst-index in
    let x = inst_shape names c.inst-item.result in
    let cut = rest_at (inst_shape names) insts k c.inst-item.result at.0 at.1 in
    let here : after (next_by c.loop-inst.next x) (map (inst_shape names) (drop (k + 1) insts)) ≡ after c.args.next.now (map (inst_shape names) insts) =
    ap (after c.loop-inst.next) (sym cut) ∙ c.loop-inst.invariant.after in
    omega (arith, here, after_grows (next_by c.loop-inst.next x) (map (inst_shape names) (drop (k + 1) insts)), c.requires.room)
