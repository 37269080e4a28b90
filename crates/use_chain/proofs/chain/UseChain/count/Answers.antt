use Rattle.std.proofs.Common.{arith, sym, ap, ◌∙◌, length}
use Rattle.std.proofs.lemmas.List.{get_or_default}
use Rattle.use_chain.proofs.Values.{value_in, uses_are, length-list_uses}
use Rattle.use_chain.proofs.chain.UseChain.count.Goals as goal

pub index-requires : goal.index-requires
index-requires c =
    let i = c.self.inside in
    let h = value_in i.links.items i.counts.items c.args.self.now c.args.v.0 c.self.view_is c.requires in
    omega (arith, h, i.counts.ok.0)

pub returns : goal.returns
returns c =
    let i = c.self.inside in
    let h = value_in i.links.items i.counts.items c.args.self.now c.args.v.0 c.self.view_is c.requires in
    let e = ap length (uses_are i.links.items i.counts.items c.args.self.now c.args.v.0 c.self.view_is h)
    ∙ length-list_uses i.links.items i.counts.items c.args.v.0 in
    c.index.ensures ∙ get_or_default i.counts.items c.args.v.0 c.index.result.now 0 (omega (arith, h)) ∙ sym e
