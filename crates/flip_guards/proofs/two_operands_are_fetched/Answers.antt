use Rattle.flip_guards.proofs.FetchLaws.{both_are_fetched, both_are_covered}
use Rattle.flip_guards.proofs.two_operands_are_fetched.Goals as goal

pub returns-clause-fetched : goal.returns-clause-fetched
returns-clause-fetched c = both_are_fetched

pub returns-clause-covered : goal.returns-clause-covered
returns-clause-covered c = both_are_covered
