use Rattle.flip_words.specs.Placed.{WindowPoints, Excepted}
use Rattle.flip_words.proofs.CheckLaw.{check_carries}
use Rattle.flip_words.proofs.checks_join.Goals as goal

pub returns : goal.returns
returns c = λ words. check_carries words (Excepted WindowPoints words)
