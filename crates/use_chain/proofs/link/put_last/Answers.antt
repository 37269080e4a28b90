use Rattle.std.proofs.Common.{rules}
use Rattle.use_chain.specs.Links.{with_last_link}
use Rattle.use_chain.proofs.link.put_last.Goals as goal

pub returns : goal.returns
unfolding with_last_link
returns c = search rules
