use Rattle.std.proofs.Common.{rules}
use Rattle.use_chain.specs.Links.{without_link}
use Rattle.use_chain.proofs.link.take_out.Goals as goal

pub returns : goal.returns
unfolding without_link
returns c = search rules
