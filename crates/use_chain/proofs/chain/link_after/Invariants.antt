use Rattle.std.proofs.Common.{◌≡◌, get_or}
use Rattle.use_chain.specs.Lists.{members}
use Rattle.use_chain.proofs.chain.link_after.Given as goal

abbrev pub invariant-loop : goal.invariant-loop
invariant-loop l = l.link ≡ get_or (members l.links l.counts l.list) l.counter 0
