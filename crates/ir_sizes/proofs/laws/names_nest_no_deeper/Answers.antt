use Rattle.ir_sizes.proofs.Depth.{no_deeper}
use Rattle.ir_sizes.proofs.laws.names_nest_no_deeper.Goals as goal

pub returns : goal.returns
returns c ts t l has = no_deeper ts t l has
