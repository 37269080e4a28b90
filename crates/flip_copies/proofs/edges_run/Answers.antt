use Rattle.flip_copies.proofs.EdgeLaws.{edges_run as runs, phis_are_set, edges_leave}
use Rattle.flip_copies.proofs.edges_run.Goals as goal

pub returns-clause-runs : goal.returns-clause-runs
returns-clause-runs c = runs

pub returns-clause-phis : goal.returns-clause-phis
returns-clause-phis c = phis_are_set

pub returns-clause-rest : goal.returns-clause-rest
returns-clause-rest c = edges_leave
