use Rattle.flip_words.specs.Placed.{Excepted}
use Rattle.flip_words.proofs.SlotLaws.{anything_carries}
use Rattle.flip_words.proofs.anything_is_computed.Goals as goal

pub returns : goal.returns
returns c = λ points words. anything_carries words (Excepted points words)
