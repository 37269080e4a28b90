use Rattle.flip_text_examples.proofs.TextRun.{text_holds}
use Rattle.flip_text_examples.proofs.a_text_holds.Goals as goal

pub returns : goal.returns
returns c = text_holds
