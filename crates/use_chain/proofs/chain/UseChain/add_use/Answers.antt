use Rattle.std.proofs.Common.{◌≡◌, ◌+◌, ◌-◌, length, arith, sym, ap, ◌∙◌, subst}
use Rattle.std.specs.List.{Contains}
use Rattle.use_chain.specs.Links.{link_at}
use Rattle.use_chain.specs.Lists.{members}
use Rattle.use_chain.specs.Kept.{chain_of}
use Rattle.use_chain.specs.Uses.{with_use}
use Rattle.use_chain.proofs.Values.{value_in, free_link, live_link, lists_added, spare_added}
use Rattle.use_chain.proofs.chain.UseChain.add_use.Goals as goal

pub move_link-requires-clause-home : goal.move_link-requires-clause-home
move_link-requires-clause-home c =
    let i = c.self.inside in
    let heads : c.len-heads.result ≡ length i.counts.items = omega (arith, c.len-heads.ensures, i.counts.ok.0) in
    let f = free_link i.links.items i.counts.items c.self.invariant c.args.self.now c.self.view_is c.requires.spare c.len-heads.result heads
    c.index.result.now c.index.ensures in
    let some = c.self.invariant.some in
    let home = f.used.home in
    omega arith

pub move_link-requires-clause-member : goal.move_link-requires-clause-member
move_link-requires-clause-member c =
    let i = c.self.inside in
    let heads : c.len-heads.result ≡ length i.counts.items = omega (arith, c.len-heads.ensures, i.counts.ok.0) in
    let f = free_link i.links.items i.counts.items c.self.invariant c.args.self.now c.self.view_is c.requires.spare c.len-heads.result heads
    c.index.result.now c.index.ensures in
    subst (λ w. Contains (members i.links.items i.counts.items w) c.index.result.now.next) (sym f.used.home) f.has

pub move_link-requires-clause-to : goal.move_link-requires-clause-to
move_link-requires-clause-to c =
    let i = c.self.inside in
    let h = value_in i.links.items i.counts.items c.args.self.now c.args.v.0 c.self.view_is c.requires.value in
    omega arith

pub overflow_sub-result : goal.overflow_sub-result
overflow_sub-result c =
    let i = c.self.inside in
    let heads : c.len-heads.result ≡ length i.counts.items = omega (arith, c.len-heads.ensures, i.counts.ok.0) in
    let f = free_link i.links.items i.counts.items c.self.invariant c.args.self.now c.self.view_is c.requires.spare c.len-heads.result heads
    c.index.result.now c.index.ensures in
    let above = f.used.above in
    omega arith

pub overflow_cast-result : goal.overflow_cast-result
overflow_cast-result c =
    let i = c.self.inside in
    let heads : c.len-heads.result ≡ length i.counts.items = omega (arith, c.len-heads.ensures, i.counts.ok.0) in
    let f = free_link i.links.items i.counts.items c.self.invariant c.args.self.now c.self.view_is c.requires.spare c.len-heads.result heads
    c.index.result.now c.index.ensures in
    let below = f.used.below in
    let all = c.self.invariant.all in
    let few = c.self.invariant.few in
    omega arith

pub returns-clause-lists : goal.returns-clause-lists
returns-clause-lists c =
    let i = c.self.inside in
    let n = c.move_link.new in
    let k = c.index.result.now.next in
    let v = c.args.v.0 in
    let heads : c.len-heads.result ≡ length i.counts.items = omega (arith, c.len-heads.ensures, i.counts.ok.0) in
    let f = free_link i.links.items i.counts.items c.self.invariant c.args.self.now c.self.view_is c.requires.spare c.len-heads.result heads
    c.index.result.now c.index.ensures in
    let h = value_in i.links.items i.counts.items c.args.self.now v c.self.view_is c.requires.value in
    subst (λ ch. (chain_of n.links.items n.counts.items).lists ≡ with_use ch.lists v (k - c.len-heads.result) c.args.at) c.self.view_is
    (lists_added i.links.items i.counts.items n.links.items n.counts.items k v (k - c.len-heads.result) c.args.at c.self.invariant c.move_link.ensures.moved
    f.used.above (ap (λ z. k - z) (sym heads)) h f.used.home)

pub returns-clause-spare : goal.returns-clause-spare
returns-clause-spare c =
    let i = c.self.inside in
    let n = c.move_link.new in
    let k = c.index.result.now.next in
    let v = c.args.v.0 in
    let heads : c.len-heads.result ≡ length i.counts.items = omega (arith, c.len-heads.ensures, i.counts.ok.0) in
    let f = free_link i.links.items i.counts.items c.self.invariant c.args.self.now c.self.view_is c.requires.spare c.len-heads.result heads
    c.index.result.now c.index.ensures in
    let h = value_in i.links.items i.counts.items c.args.self.now v c.self.view_is c.requires.value in
    subst (λ ch. (chain_of n.links.items n.counts.items).spare + 1 ≡ ch.spare) c.self.view_is
    (spare_added i.links.items i.counts.items n.links.items n.counts.items k v (k - c.len-heads.result) c.args.at c.self.invariant c.move_link.ensures.moved
    f.used.above (ap (λ z. k - z) (sym heads)) h f.has)

pub returns-clause-fresh : goal.returns-clause-fresh
returns-clause-fresh c live =
    let i = c.self.inside in
    let k = c.index.result.now.next in
    let heads : c.len-heads.result ≡ length i.counts.items = omega (arith, c.len-heads.ensures, i.counts.ok.0) in
    let f = free_link i.links.items i.counts.items c.self.invariant c.args.self.now c.self.view_is c.requires.spare c.len-heads.result heads
    c.index.result.now c.index.ensures in
    let l = live_link i.links.items i.counts.items c.self.invariant c.args.self.now c.self.view_is (k - c.len-heads.result) live in
    let above = f.used.above in
    let same : length i.counts.items + (k - c.len-heads.result) ≡ k = omega arith in
    let below = l.below in
    let clash : l.value ≡ length i.counts.items - 1 = sym l.place.used.home ∙ ap (λ z. (link_at i.links.items z).list) same ∙ f.used.home in
    omega arith
