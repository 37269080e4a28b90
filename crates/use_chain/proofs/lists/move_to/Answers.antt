use Rattle.std.proofs.Common.{◌≢◌, ◌<◌, length, sym, subst, arith}
use Rattle.std.specs.List.{AllByRecursion}
use Rattle.use_chain.specs.Lists.{AreLists, members}
use Rattle.use_chain.specs.Links.{link_at}
use Rattle.use_chain.proofs.Moves.{use_of_member}
use Rattle.use_chain.proofs.Elements.{others_other}
use Rattle.use_chain.proofs.lists.move_to.Goals as goal

pub append-requires-clause-absent : goal.append-requires-clause-absent
append-requires-clause-absent c v h =
    let v_in : v < length c.args.counts.now = omega arith in
    subst (λ ks. AllByRecursion (λ j. j ≢ c.args.k) ks) (sym (c.remove.ensures.members v v_in))
    (others_other c.args.k (members c.args.links.now c.args.counts.now v))

pub returns-clause-lists : goal.returns-clause-lists
returns-clause-lists c =
    let a = c.args in
    let it = use_of_member a.links.now a.counts.now (length a.links.now) (link_at a.links.now a.k).list a.k c.requires.lists c.requires.home
    c.requires.member in
    let low = it.below in
    subst (λ m. AreLists c.append.new.links c.append.new.counts m) (sym c.append.auto.links)
    (c.append.ensures.lists (length c.remove.new.links) (omega arith) c.remove.ensures.lists)
