use Rattle.std.proofs.Common.{◌≡◌, ◌<◌, length, get_or, Some, slice_get, option_map, arith, sym, ap, ap₂, ◌∙◌, subst}
use Rattle.std.proofs.lemmas.List.{get_or_default}
use Rattle.use_chain.specs.Links.{no_link, link_at}
use Rattle.use_chain.specs.Lists.{members}
use Rattle.use_chain.proofs.Values.{value_in, uses_are, no_use_at, use_of_member_at}
use Rattle.use_chain.proofs.chain.UseChain.use_at.Goals as goal

pub index-requires : goal.index-requires
index-requires c =
    let i = c.self.inside in
    let h = value_in i.links.items i.counts.items c.args.self.now c.args.v.0 c.self.view_is c.requires in
    omega (arith, h, i.counts.ok.0)

pub returns-then-k-index : goal.returns-then-k-index
returns-then-k-index c =
    let i = c.self.inside in
    let v = c.args.v.0 in
    let h = value_in i.links.items i.counts.items c.args.self.now v c.self.view_is c.requires in
    let count = c.index.ensures ∙ get_or_default i.counts.items v c.index.result.now 0 (omega (arith, h)) in
    let past = c.if-k-index.true in
    sym (ap (λ us. option_map (λ u. u.at) (slice_get us c.args.k)) (uses_are i.links.items i.counts.items c.args.self.now v c.self.view_is h)
    ∙ no_use_at i.links.items i.counts.items v c.args.k (omega arith))

pub link_after-link-requires-clause-list : goal.link_after-link-requires-clause-list
link_after-link-requires-clause-list c =
    let i = c.self.inside in
    let h = value_in i.links.items i.counts.items c.args.self.now c.args.v.0 c.self.view_is c.requires in
    subst (λ xs. c.args.v.0 < length xs) (sym c.deref-2.ensures.value) (omega (arith, h))

pub link_after-link-requires-clause-within : goal.link_after-link-requires-clause-within
link_after-link-requires-clause-within c =
    let i = c.self.inside in
    let v = c.args.v.0 in
    let h = value_in i.links.items i.counts.items c.args.self.now v c.self.view_is c.requires in
    let count = c.index.ensures ∙ get_or_default i.counts.items v c.index.result.now 0 (omega (arith, h)) in
    let in_it = c.if-k-index.false in
    subst (λ xs. c.args.k < get_or xs v 0) (sym c.deref-2.ensures.value) (omega arith)

pub returns : goal.returns
returns c =
    let i = c.self.inside in
    let v = c.args.v.0 in
    let k = c.args.k in
    let h = value_in i.links.items i.counts.items c.args.self.now v c.self.view_is c.requires in
    let count = c.index.ensures ∙ get_or_default i.counts.items v c.index.result.now 0 (omega (arith, h)) in
    let in_it = c.if-k-index.false in
    let r = c.link_after-link.result in
    let link : r ≡ get_or (members i.links.items i.counts.items v) k 0 =
    c.link_after-link.ensures.link ∙ ap₂ (λ ls cs. get_or (members ls cs v) k 0) c.deref.ensures.value c.deref-2.ensures.value in
    let below : r < length i.links.items = subst (λ ls. r < length ls) c.deref.ensures.value c.link_after-link.ensures.within in
    let there : c.index-2.result.now ≡ link_at i.links.items r = c.index-2.ensures ∙ get_or_default i.links.items r c.index-2.result.now no_link below in
    ap (λ l. Some l.at) there
    ∙ ap (λ z. Some (link_at i.links.items z).at) link
    ∙ sym (use_of_member_at i.links.items i.counts.items v k (omega arith))
    ∙ sym (ap (λ us. option_map (λ u. u.at) (slice_get us k)) (uses_are i.links.items i.counts.items c.args.self.now v c.self.view_is h))
