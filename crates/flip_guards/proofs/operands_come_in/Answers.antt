use Rattle.flip_guards.proofs.FetchLaws.{operand_comes}
use Rattle.flip_guards.proofs.operands_come_in.Goals as goal

pub returns : goal.returns
returns c = operand_comes
