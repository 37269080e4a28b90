use Rattle.flip_guards.proofs.SourceLaws.{source_carries}
use Rattle.flip_guards.proofs.sources_come_in.Goals as goal

pub returns : goal.returns
returns c = source_carries
