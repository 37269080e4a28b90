use Rattle.ir_edges.proofs.Uses.{used_operands}
use Rattle.ir_edges.proofs.laws.operands_are_used.Goals as goal

pub returns : goal.returns
returns c = used_operands
