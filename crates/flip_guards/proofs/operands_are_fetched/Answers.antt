use Rattle.flip_guards.proofs.FetchLaws.{operand_is_fetched, operand_is_covered}
use Rattle.flip_guards.proofs.operands_are_fetched.Goals as goal

pub returns-clause-fetched : goal.returns-clause-fetched
returns-clause-fetched c = operand_is_fetched

pub returns-clause-covered : goal.returns-clause-covered
returns-clause-covered c = operand_is_covered
