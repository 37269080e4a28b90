use Rattle.std.proofs.Common.{◌≡◌, ◌<◌, ◌∷◌, [], map, length, arith, sym, ap, ◌∙◌, subst}
use Rattle.std.specs.Vec.{vec_len}
use Rattle.std.proofs.lemmas.List.{get_or_default}
use Rattle.use_chain.specs.Links.{no_link, link_at}
use Rattle.use_chain.specs.Kept.{use_at_link}
use Rattle.use_chain.proofs.Values.{value_in, uses_are, length-list_uses, only_member, only_below}
use Rattle.use_chain.proofs.chain.UseChain.single_use.Goals as goal

pub index-requires : goal.index-requires
index-requires c =
    let i = c.self.inside in
    let h = value_in i.links.items i.counts.items c.args.self.now c.args.v.0 c.self.view_is c.requires in
    omega (arith, h, i.counts.ok.0)

pub returns-then-index-ne1 : goal.returns-then-index-ne1
returns-then-index-ne1 c e =
    let i = c.self.inside in
    let v = c.args.v.0 in
    let h = value_in i.links.items i.counts.items c.args.self.now v c.self.view_is c.requires in
    let many = ap length (uses_are i.links.items i.counts.items c.args.self.now v c.self.view_is h) ∙ length-list_uses i.links.items i.counts.items v in
    let count = c.index.ensures ∙ get_or_default i.counts.items v c.index.result.now 0 (omega (arith, h)) in
    let other = c.if-index-ne1.true in
    omega arith

pub index-requires-2 : goal.index-requires-2
index-requires-2 c =
    let i = c.self.inside in
    let h = value_in i.links.items i.counts.items c.args.self.now c.args.v.0 c.self.view_is c.requires in
    let room = c.self.invariant.lists.room in
    omega (arith, h, i.links.ok.0)

pub index-requires-3 : goal.index-requires-3
index-requires-3 c =
    let i = c.self.inside in
    let v = c.args.v.0 in
    let h = value_in i.links.items i.counts.items c.args.self.now v c.self.view_is c.requires in
    let room = c.self.invariant.lists.room in
    let count = c.index.ensures ∙ get_or_default i.counts.items v c.index.result.now 0 (omega (arith, h)) in
    let one = c.if-index-ne1.false in
    let there : c.index-2.result.now ≡ link_at i.links.items v = c.index-2.ensures
    ∙ get_or_default i.links.items v c.index-2.result.now no_link (omega (arith, h)) in
    let below = only_below i.links.items i.counts.items v c.self.invariant (omega (arith, h)) (omega arith) in
    subst (λ l. l.next < vec_len i.links) (sym there) (omega (arith, i.links.ok.0))

pub returns : goal.returns
returns c =
    let i = c.self.inside in
    let v = c.args.v.0 in
    let h = value_in i.links.items i.counts.items c.args.self.now v c.self.view_is c.requires in
    let room = c.self.invariant.lists.room in
    let count = c.index.ensures ∙ get_or_default i.counts.items v c.index.result.now 0 (omega (arith, h)) in
    let one = c.if-index-ne1.false in
    let there : c.index-2.result.now ≡ link_at i.links.items v = c.index-2.ensures
    ∙ get_or_default i.links.items v c.index-2.result.now no_link (omega (arith, h)) in
    let below = only_below i.links.items i.counts.items v c.self.invariant (omega (arith, h)) (omega arith) in
    let next_below : c.index-2.result.now.next < length i.links.items = subst (λ l. l.next < length i.links.items) (sym there) below in
    let last : c.index-3.result.now ≡ link_at i.links.items c.index-2.result.now.next =
    c.index-3.ensures ∙ get_or_default i.links.items c.index-2.result.now.next c.index-3.result.now no_link next_below in
    ap (map (λ u. u.at)) (uses_are i.links.items i.counts.items c.args.self.now v c.self.view_is h)
    ∙ ap (λ ks. map (λ u. u.at) (map (use_at_link i.links.items (length i.counts.items)) ks)) (only_member i.links.items i.counts.items v (omega arith))
    ∙ ap (λ a. a ∷ []) (sym (ap (λ l. l.at) last ∙ ap (λ l. (link_at i.links.items l.next).at) there))
