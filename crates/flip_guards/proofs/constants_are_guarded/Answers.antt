use Rattle.flip_guards.proofs.FetchLaws.{constant_is_guarded, constant_is_covered}
use Rattle.flip_guards.proofs.constants_are_guarded.Goals as goal

pub returns-clause-guarded : goal.returns-clause-guarded
returns-clause-guarded c = constant_is_guarded

pub returns-clause-covered : goal.returns-clause-covered
returns-clause-covered c = constant_is_covered
