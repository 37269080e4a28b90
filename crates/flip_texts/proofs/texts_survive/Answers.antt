use Rattle.flip_texts.proofs.TextLaws.{text_survives, way_survives}
use Rattle.flip_texts.proofs.texts_survive.Goals as goal

pub returns-clause-ends : goal.returns-clause-ends
returns-clause-ends c = text_survives

pub returns-clause-ways : goal.returns-clause-ways
returns-clause-ways c = way_survives
