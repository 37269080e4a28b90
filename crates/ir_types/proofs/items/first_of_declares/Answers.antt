use Rattle.std.proofs.Common.{arith}
use Rattle.ir_types.proofs.Looking.{below_none}
use Rattle.ir_types.proofs.EachItem.{item_more, items_all, are_declares}
use Rattle.ir_types.proofs.items.first_of_declares.Goals as goal

pub loop-at-init : goal.loop-at-init
loop-at-init c = below_none c.args.p.now _

pub loop-at-preserved : goal.loop-at-preserved
loop-at-preserved c =
    let p = c.args.p.now in
    item_more p _ _ _ _ _ (are_declares p) c.loop-at.at c.index.result.now c.index-in-loop-at.result.now c.is_proper_declare-is_proper.result c.loop-at.found
    c.fault_at.result c.first_of-found.result (omega arith) c.index.ensures c.index-in-loop-at.ensures c.is_proper_declare-is_proper.ensures
    c.fault_at.ensures c.first_of-found.ensures c.loop-at.invariant

pub returns : goal.returns
returns c = items_all c.args.p.now _ _ _ _ _ (are_declares c.args.p.now) c.loop-at.at c.loop-at.found (omega arith) c.loop-at.invariant
