use Rattle.flip_versions.proofs.VersionLaws.{operation_runs}
use Rattle.flip_versions.proofs.operations_run.Goals as goal

pub returns : goal.returns
returns c = operation_runs
