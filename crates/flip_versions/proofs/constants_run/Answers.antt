use Rattle.flip_versions.proofs.VersionLaws.{constants_run as constants}
use Rattle.flip_versions.proofs.constants_run.Goals as goal

pub returns : goal.returns
returns c = constants
