use Rattle.flip_words.specs.Placed.{Excepted}
use Rattle.flip_words.proofs.SlotLaws.{load_carries}
use Rattle.flip_words.proofs.slots_are_loaded.Goals as goal

pub returns : goal.returns
returns c = λ points words. load_carries words (Excepted points words)
