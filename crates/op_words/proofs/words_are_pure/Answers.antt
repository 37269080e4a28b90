use Rattle.op_words.proofs.Answered as answered
use Rattle.op_words.proofs.words_are_pure.Goals as goal

pub returns : goal.returns
returns c = answered.all_pure
