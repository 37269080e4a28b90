use Rattle.std.proofs.Common.{◌≡◌, ◌+◌, length, get_or, set, sym, subst}
use Rattle.use_chain.specs.Links.{link_at}
use Rattle.use_chain.specs.Lists.{AreLists, members, joined}
use Rattle.use_chain.proofs.Moves.{last_in_range, lists_in, members_in, use_here, use_beside}
use Rattle.use_chain.proofs.lists.append.Goals as goal

pub put_last-requires-clause-last : goal.put_last-requires-clause-last
put_last-requires-clause-last c =
    let a = c.args in
    last_in_range a.links.now a.counts.now (length a.links.now) a.k c.requires.lists a.list a.at c.requires.list c.requires.above c.requires.within
    c.requires.absent

pub returns-clause-lists : goal.returns-clause-lists
returns-clause-lists c last h are =
    let a = c.args in
    subst (λ l. AreLists l (set a.counts.now a.list (get_or a.counts.now a.list 0 + 1)) last) (sym c.put_last.ensures)
    (lists_in a.links.now a.counts.now last a.k are a.list a.at c.requires.list c.requires.above h c.requires.absent)

pub returns-clause-members : goal.returns-clause-members
returns-clause-members c w w_in =
    let a = c.args in
    subst (λ l. members l (set a.counts.now a.list (get_or a.counts.now a.list 0 + 1)) w ≡ joined a.k a.list w (members a.links.now a.counts.now w))
    (sym c.put_last.ensures)
    (members_in a.links.now a.counts.now (length a.links.now) a.k c.requires.lists a.list a.at c.requires.list c.requires.above c.requires.within
    c.requires.absent w w_in)

pub returns-clause-here : goal.returns-clause-here
returns-clause-here c =
    let a = c.args in
    subst (λ l. (link_at l a.k).at ≡ a.at) (sym c.put_last.ensures)
    (use_here a.links.now a.counts.now (length a.links.now) a.k c.requires.lists a.list a.at c.requires.list c.requires.above c.requires.within
    c.requires.absent)

pub returns-clause-others : goal.returns-clause-others
returns-clause-others c j other =
    let a = c.args in
    subst (λ l. (link_at l j).at ≡ (link_at a.links.now j).at) (sym c.put_last.ensures)
    (use_beside a.links.now a.counts.now (length a.links.now) a.k c.requires.lists a.list a.at c.requires.list c.requires.above c.requires.within
    c.requires.absent j other)
