use Rattle.std.proofs.Common.{◌≡◌, ◌+◌, ◌-◌, ◌<◌, length, arith, sym, ap, ◌∙◌, subst}
use Rattle.std.specs.List.{Contains}
use Rattle.use_chain.specs.Links.{link_at}
use Rattle.use_chain.specs.Lists.{members}
use Rattle.use_chain.specs.Kept.{chain_of}
use Rattle.use_chain.specs.Uses.{all_without}
use Rattle.use_chain.proofs.Values.{live_link, lists_dropped, spare_dropped}
use Rattle.use_chain.proofs.chain.UseChain.drop_use.Goals as goal

pub move_link-requires-clause-home : goal.move_link-requires-clause-home
move_link-requires-clause-home c =
    let i = c.self.inside in
    let heads : c.len-heads.result ≡ length i.counts.items = omega (arith, c.len-heads.ensures, i.counts.ok.0) in
    let l = live_link i.links.items i.counts.items c.self.invariant c.args.self.now c.self.view_is c.args.s.0 c.requires in
    let below = l.below in
    subst (λ h. (link_at i.links.items (h + c.args.s.0)).list < length i.counts.items) (sym heads)
    (let home = l.place.used.home in omega arith)

pub move_link-requires-clause-member : goal.move_link-requires-clause-member
move_link-requires-clause-member c =
    let i = c.self.inside in
    let heads : c.len-heads.result ≡ length i.counts.items = omega (arith, c.len-heads.ensures, i.counts.ok.0) in
    let l = live_link i.links.items i.counts.items c.self.invariant c.args.self.now c.self.view_is c.args.s.0 c.requires in
    subst (λ h. Contains (members i.links.items i.counts.items (link_at i.links.items (h + c.args.s.0)).list) (h + c.args.s.0)) (sym heads)
    (subst (λ w. Contains (members i.links.items i.counts.items w) (length i.counts.items + c.args.s.0)) (sym l.place.used.home) l.place.member)

pub returns-clause-lists : goal.returns-clause-lists
returns-clause-lists c =
    let i = c.self.inside in
    let n = c.move_link.new in
    let s = c.args.s.0 in
    let k = c.len-heads.result + s in
    let heads : c.len-heads.result ≡ length i.counts.items = omega (arith, c.len-heads.ensures, i.counts.ok.0) in
    subst (λ ch. (chain_of n.links.items n.counts.items).lists ≡ all_without s ch.lists) c.self.view_is
    (lists_dropped i.links.items i.counts.items n.links.items n.counts.items k (c.len-heads.result - 1) s _ c.self.invariant c.move_link.ensures.moved
    (omega arith) (omega arith) (ap (λ z. z - 1) heads))

pub returns-clause-spare : goal.returns-clause-spare
returns-clause-spare c =
    let i = c.self.inside in
    let n = c.move_link.new in
    let s = c.args.s.0 in
    let k = c.len-heads.result + s in
    let heads : c.len-heads.result ≡ length i.counts.items = omega (arith, c.len-heads.ensures, i.counts.ok.0) in
    let l = live_link i.links.items i.counts.items c.self.invariant c.args.self.now c.self.view_is s c.requires in
    subst (λ ch. (chain_of n.links.items n.counts.items).spare ≡ ch.spare + 1) c.self.view_is
    (spare_dropped i.links.items i.counts.items n.links.items n.counts.items k (c.len-heads.result - 1) s _ c.self.invariant c.move_link.ensures.moved
    (omega arith) (omega arith) l.value l.below (ap (λ h. (link_at i.links.items (h + s)).list) heads ∙ l.place.used.home) (ap (λ z. z - 1) heads))
