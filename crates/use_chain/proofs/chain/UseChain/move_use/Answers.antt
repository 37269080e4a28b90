use Rattle.std.proofs.Common.{◌≡◌, ◌+◌, ◌<◌, length, arith, sym, ap, ◌∙◌, subst}
use Rattle.std.specs.List.{Contains}
use Rattle.std.proofs.lemmas.List.{get_or_default}
use Rattle.use_chain.specs.Links.{no_link, link_at}
use Rattle.use_chain.specs.Lists.{members}
use Rattle.use_chain.specs.Kept.{chain_of}
use Rattle.use_chain.specs.Uses.{all_without, with_use}
use Rattle.use_chain.proofs.Values.{value_in, live_link, use_is, lists_moved, spare_moved}
use Rattle.use_chain.proofs.chain.UseChain.move_use.Goals as goal

pub index-requires : goal.index-requires
index-requires c =
    let i = c.self.inside in
    let heads : c.len.result ≡ length i.counts.items = omega (arith, c.len.ensures, i.counts.ok.0) in
    let l = live_link i.links.items i.counts.items c.self.invariant c.args.self.now c.self.view_is c.args.s.0 c.requires.live in
    let below = l.place.used.below in
    omega (arith, i.links.ok.0)

pub move_link-requires-clause-home : goal.move_link-requires-clause-home
move_link-requires-clause-home c =
    let i = c.self.inside in
    let heads : c.len.result ≡ length i.counts.items = omega (arith, c.len.ensures, i.counts.ok.0) in
    let l = live_link i.links.items i.counts.items c.self.invariant c.args.self.now c.self.view_is c.args.s.0 c.requires.live in
    let below = l.below in
    subst (λ h. (link_at i.links.items (h + c.args.s.0)).list < length i.counts.items) (sym heads)
    (let home = l.place.used.home in omega arith)

pub move_link-requires-clause-member : goal.move_link-requires-clause-member
move_link-requires-clause-member c =
    let i = c.self.inside in
    let heads : c.len.result ≡ length i.counts.items = omega (arith, c.len.ensures, i.counts.ok.0) in
    let l = live_link i.links.items i.counts.items c.self.invariant c.args.self.now c.self.view_is c.args.s.0 c.requires.live in
    subst (λ h. Contains (members i.links.items i.counts.items (link_at i.links.items (h + c.args.s.0)).list) (h + c.args.s.0)) (sym heads)
    (subst (λ w. Contains (members i.links.items i.counts.items w) (length i.counts.items + c.args.s.0)) (sym l.place.used.home) l.place.member)

pub move_link-requires-clause-to : goal.move_link-requires-clause-to
move_link-requires-clause-to c =
    let i = c.self.inside in
    let h = value_in i.links.items i.counts.items c.args.self.now c.args.to.0 c.self.view_is c.requires.value in
    omega arith

pub returns-clause-lists : goal.returns-clause-lists
returns-clause-lists c v at has =
    let i = c.self.inside in
    let n = c.move_link.new in
    let s = c.args.s.0 in
    let to = c.args.to.0 in
    let k = c.len.result + s in
    let heads : c.len.result ≡ length i.counts.items = omega (arith, c.len.ensures, i.counts.ok.0) in
    let l = live_link i.links.items i.counts.items c.self.invariant c.args.self.now c.self.view_is s c.requires.live in
    let below = l.place.used.below in
    let h = value_in i.links.items i.counts.items c.args.self.now to c.self.view_is c.requires.value in
    let there : c.index.result.now ≡ link_at i.links.items k = c.index.ensures ∙ get_or_default i.links.items k c.index.result.now no_link (omega arith) in
    let is : c.index.result.now.at ≡ at =
    ap (λ x. x.at) there ∙ ap (λ z. (link_at i.links.items (z + s)).at) heads
    ∙ use_is i.links.items i.counts.items c.self.invariant c.args.self.now c.self.view_is v s at has in
    subst (λ ch. (chain_of n.links.items n.counts.items).lists ≡ with_use (all_without s ch.lists) to s at) c.self.view_is
    (subst (λ a. (chain_of n.links.items n.counts.items).lists ≡ with_use (all_without s (chain_of i.links.items i.counts.items).lists) to s a) is
    (lists_moved i.links.items i.counts.items n.links.items n.counts.items k to s c.index.result.now.at c.self.invariant c.move_link.ensures.moved
    (omega arith) (omega arith) h))

pub returns-clause-spare : goal.returns-clause-spare
returns-clause-spare c =
    let i = c.self.inside in
    let n = c.move_link.new in
    let s = c.args.s.0 in
    let to = c.args.to.0 in
    let k = c.len.result + s in
    let heads : c.len.result ≡ length i.counts.items = omega (arith, c.len.ensures, i.counts.ok.0) in
    let l = live_link i.links.items i.counts.items c.self.invariant c.args.self.now c.self.view_is s c.requires.live in
    let h = value_in i.links.items i.counts.items c.args.self.now to c.self.view_is c.requires.value in
    subst (λ ch. (chain_of n.links.items n.counts.items).spare ≡ ch.spare) c.self.view_is
    (spare_moved i.links.items i.counts.items n.links.items n.counts.items k to s c.index.result.now.at c.self.invariant c.move_link.ensures.moved
    (omega arith) (omega arith) l.value l.below (ap (λ z. (link_at i.links.items (z + s)).list) heads ∙ l.place.used.home) h)
