use Rattle.flip_words.proofs.CarryLemmas.{joined}
use Rattle.flip_words.proofs.lists_join.Goals as goal

pub returns : goal.returns
returns c = λ points words xs ys c d e one two. joined one two
