use Rattle.flip_select.proofs.SelectLaw.{select_runs}
use Rattle.flip_select.proofs.selects_run.Goals as goal

pub returns : goal.returns
returns c = select_runs
