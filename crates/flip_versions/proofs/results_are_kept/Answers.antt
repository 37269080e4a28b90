use Rattle.flip_versions.proofs.VersionLaws.{defined_hold, others_stay}
use Rattle.flip_versions.proofs.results_are_kept.Goals as goal

pub returns-clause-own : goal.returns-clause-own
returns-clause-own c = defined_hold

pub returns-clause-others : goal.returns-clause-others
returns-clause-others c = others_stay
