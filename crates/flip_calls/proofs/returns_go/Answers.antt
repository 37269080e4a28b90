use Rattle.flip_calls.proofs.CallLaws.{returns_go as goes, results_return}
use Rattle.flip_calls.proofs.returns_go.Goals as goal

pub returns-clause-goes : goal.returns-clause-goes
returns-clause-goes c = goes

pub returns-clause-results : goal.returns-clause-results
returns-clause-results c = results_return
