use Rattle.std.proofs.Common.{◌+◌, ◌<◌, get_or, arith, ap, ◌∙◌}
use Rattle.use_chain.specs.Links.{link_at}
use Rattle.use_chain.proofs.Values.{member_next}
use Rattle.use_chain.proofs.chain.link_after.Goals as goal

pub loop-preserved : goal.loop-preserved
loop-preserved c =
    let a = c.args in
    let h : c.loop.counter + 1 < get_or a.counts.now a.list 0 = let w = c.requires.within in let t = c.loop-test.true in omega arith in
    ap (λ z. (link_at a.links.now z).next) c.loop.invariant ∙ member_next a.links.now a.counts.now a.list c.loop.counter h
