use Rattle.std.proofs.Common.{◌≡◌, length, sym, subst}
use Rattle.use_chain.specs.Links.{link_at, without_link}
use Rattle.use_chain.specs.Lists.{AreLists, members, others}
use Rattle.use_chain.proofs.Elements.{split_at}
use Rattle.use_chain.proofs.Moves.{prev_in_range, next_in_range, lists_out, members_out, uses_out, length_out, fewer}
use Rattle.use_chain.proofs.lists.remove.Goals as goal

pub take_out-requires-clause-prev : goal.take_out-requires-clause-prev
take_out-requires-clause-prev c =
    let v = (link_at c.args.links.now c.args.k).list in
    let s = split_at (members c.args.links.now c.args.counts.now v) c.args.k c.requires.member in
    prev_in_range c.args.links.now c.args.counts.now (length c.args.links.now) c.args.k c.requires.lists v c.requires.home s.0 s.1 s.2

pub take_out-requires-clause-next : goal.take_out-requires-clause-next
take_out-requires-clause-next c =
    let v = (link_at c.args.links.now c.args.k).list in
    let s = split_at (members c.args.links.now c.args.counts.now v) c.args.k c.requires.member in
    next_in_range c.args.links.now c.args.counts.now (length c.args.links.now) c.args.k c.requires.lists v c.requires.home s.0 s.1 s.2

pub returns-clause-lists : goal.returns-clause-lists
returns-clause-lists c =
    let links = c.args.links.now in
    let counts = c.args.counts.now in
    let k = c.args.k in
    let v = (link_at links k).list in
    let s = split_at (members links counts v) k c.requires.member in
    let less = fewer links counts (length links) k c.requires.lists v c.requires.home s.0 s.1 s.2 in
    subst (λ l. AreLists l less (length l)) (sym c.take_out.ensures)
    (subst (λ m. AreLists (without_link links k) less m) (sym (length_out links counts (length links) k c.requires.lists v c.requires.home s.0 s.1 s.2))
    (lists_out links counts (length links) k c.requires.lists v c.requires.home s.0 s.1 s.2))

pub returns-clause-members : goal.returns-clause-members
returns-clause-members c w w_in =
    let links = c.args.links.now in
    let counts = c.args.counts.now in
    let k = c.args.k in
    let v = (link_at links k).list in
    let s = split_at (members links counts v) k c.requires.member in
    let less = fewer links counts (length links) k c.requires.lists v c.requires.home s.0 s.1 s.2 in
    subst (λ l. members l less w ≡ others k (members links counts w)) (sym c.take_out.ensures)
    (members_out links counts (length links) k c.requires.lists v c.requires.home s.0 s.1 s.2 w w_in)

pub returns-clause-uses : goal.returns-clause-uses
returns-clause-uses c j =
    let links = c.args.links.now in
    let counts = c.args.counts.now in
    let k = c.args.k in
    let v = (link_at links k).list in
    let s = split_at (members links counts v) k c.requires.member in
    subst (λ l. (link_at l j).at ≡ (link_at links j).at) (sym c.take_out.ensures)
    (uses_out links counts (length links) k c.requires.lists v c.requires.home s.0 s.1 s.2 j)
