use Rattle.flip_words.proofs.CarryLemmas.{carries_less}
use Rattle.flip_words.proofs.less_is_carried.Goals as goal

pub returns : goal.returns
returns c = λ points words code c c' d' d front one back. carries_less front one back
