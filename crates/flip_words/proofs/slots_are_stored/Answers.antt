use Rattle.flip_words.specs.Placed.{Excepted}
use Rattle.flip_words.proofs.SlotLaws.{store_carries}
use Rattle.flip_words.proofs.slots_are_stored.Goals as goal

pub returns : goal.returns
returns c = λ points words. store_carries words (Excepted points words)
