use Rattle.flip_texts.proofs.TextLaws.{way_ends}
use Rattle.flip_texts.proofs.ways_end.Goals as goal

pub returns : goal.returns
returns c = way_ends
