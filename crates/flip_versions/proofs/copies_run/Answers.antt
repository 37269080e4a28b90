use Rattle.flip_versions.proofs.VersionLaws.{copies_run as copies}
use Rattle.flip_versions.proofs.copies_run.Goals as goal

pub returns : goal.returns
returns c = copies
