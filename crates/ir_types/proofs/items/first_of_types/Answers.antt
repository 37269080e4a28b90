use Rattle.std.proofs.Common.{arith}
use Rattle.ir_types.proofs.Looking.{below_none}
use Rattle.ir_types.proofs.EachItem.{item_more, items_all, are_types, type_known}
use Rattle.ir_types.proofs.items.first_of_types.Goals as goal

pub loop-at-init : goal.loop-at-init
loop-at-init c = below_none c.args.p.now _

pub loop-at-preserved : goal.loop-at-preserved
loop-at-preserved c =
    let p = c.args.p.now in
    let t = c.index.result.now in
    let at = c.loop-at.at in
    let known = type_known p.«module» at t c.requires.known (omega arith) c.index.ensures in
    item_more p _ _ _ _ _ (are_types p) at t c.index-in-loop-at.result.now c.is_sized-is_proper.result c.loop-at.found c.fault_at.result c.first_of-found.result
    (omega arith) c.index.ensures c.index-in-loop-at.ensures (c.is_sized-is_proper.ensures p.«module» c.requires.known c.requires.tables.layouts known)
    c.fault_at.ensures c.first_of-found.ensures c.loop-at.invariant

pub returns : goal.returns
returns c = items_all c.args.p.now _ _ _ _ _ (are_types c.args.p.now) c.loop-at.at c.loop-at.found (omega arith) c.loop-at.invariant
