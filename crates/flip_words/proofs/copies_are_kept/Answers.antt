use Rattle.flip_words.specs.Placed.{Excepted}
use Rattle.flip_words.proofs.ComputeLaws.{copy_carries}
use Rattle.flip_words.proofs.copies_are_kept.Goals as goal

pub returns : goal.returns
returns c = λ points words. copy_carries words (Excepted points words)
