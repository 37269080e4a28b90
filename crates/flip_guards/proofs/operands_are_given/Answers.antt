use Rattle.flip_guards.proofs.FetchLaws.{triples_give, constants_give}
use Rattle.flip_guards.proofs.operands_are_given.Goals as goal

pub returns-clause-slots : goal.returns-clause-slots
returns-clause-slots c = triples_give

pub returns-clause-constants : goal.returns-clause-constants
returns-clause-constants c = constants_give
