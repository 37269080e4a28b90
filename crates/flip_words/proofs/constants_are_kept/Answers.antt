use Rattle.flip_words.specs.Placed.{Excepted}
use Rattle.flip_words.proofs.ComputeLaws.{constant_carries}
use Rattle.flip_words.proofs.constants_are_kept.Goals as goal

pub returns : goal.returns
returns c = λ points words. constant_carries words (Excepted points words)
