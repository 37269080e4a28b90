use Rattle.flip_texts.proofs.TextLaws.{relation_ends}
use Rattle.flip_texts.proofs.relations_end.Goals as goal

pub returns : goal.returns
returns g c = relation_ends g.R.KnownAfter.holds
