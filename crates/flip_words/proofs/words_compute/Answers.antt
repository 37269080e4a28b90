use Rattle.flip_words.specs.Placed.{Excepted}
use Rattle.flip_words.proofs.ComputeLaws.{compute_carries}
use Rattle.flip_words.proofs.words_compute.Goals as goal

pub returns : goal.returns
returns c = λ points words. compute_carries words (Excepted points words)
