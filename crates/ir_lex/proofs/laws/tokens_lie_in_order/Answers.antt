use Rattle.ir_lex.proofs.InOrder.{tokens_lie}
use Rattle.ir_lex.proofs.laws.tokens_lie_in_order.Goals as goal

pub returns : goal.returns
returns c = tokens_lie
