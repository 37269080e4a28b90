use Rattle.flip_copies.proofs.CopyLaws.{copy_lists_run as lists_run, goals_are_set, rest_stays, holds_copied}
use Rattle.flip_copies.proofs.copy_lists_run.Goals as goal

pub returns-clause-runs : goal.returns-clause-runs
returns-clause-runs c = lists_run

pub returns-clause-goals : goal.returns-clause-goals
returns-clause-goals c = goals_are_set

pub returns-clause-rest : goal.returns-clause-rest
returns-clause-rest c = rest_stays

pub returns-clause-values : goal.returns-clause-values
returns-clause-values c = holds_copied
