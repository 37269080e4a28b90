use Rattle.std.proofs.Common.{◌+◌, ◌-◌, length, arith, ◌∙◌}
use Rattle.use_chain.specs.Lists.{members}
use Rattle.use_chain.proofs.Moves.{lists_weaker}
use Rattle.use_chain.proofs.Values.{joined_else}
use Rattle.use_chain.proofs.chain.free_links.Goals as goal

pub loop-k-preserved : goal.loop-k-preserved
loop-k-preserved c =
    let l = c.loop-k in
    let inv = l.invariant in
    let k = l.k in
    let free = length c.args.counts.now - 1 in
    let e = c.append.ensures in
    let in_it = c.loop-k-test.true in
    let total_before = inv.1 in
    let total_now = e.total in
    let count_before = inv.4 in
    let count_now = e.count in (
      e.lists (k + 1) (omega arith) (lists_weaker l.links l.counts k (k + 1) inv.0 (omega arith) (omega arith)),
      omega arith,
      (λ v h. e.members v (omega arith) ∙ joined_else k free v (members l.links l.counts v) (λ same. omega arith) ∙ inv.2 v h),
      (λ j h. e.others j (λ same. omega arith) ∙ inv.3 j h),
      omega arith,
    )
