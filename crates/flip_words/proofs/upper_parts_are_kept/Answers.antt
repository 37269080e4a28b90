use Rattle.flip_words.specs.Placed.{Excepted}
use Rattle.flip_words.proofs.ComputeLaws.{upper_carries}
use Rattle.flip_words.proofs.upper_parts_are_kept.Goals as goal

pub returns : goal.returns
returns c = λ points words. upper_carries words (Excepted points words)
