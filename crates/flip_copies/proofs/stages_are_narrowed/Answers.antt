use Rattle.flip_copies.proofs.NarrowingLaws.{narrowed, narrowed_holds}
use Rattle.flip_copies.proofs.stages_are_narrowed.Goals as goal

pub returns-clause-less : goal.returns-clause-less
returns-clause-less c = narrowed

pub returns-clause-held : goal.returns-clause-held
returns-clause-held c = narrowed_holds
