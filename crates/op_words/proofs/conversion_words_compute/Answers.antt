use Rattle.op_words.proofs.Answered as answered
use Rattle.op_words.proofs.conversion_words_compute.Goals as goal

pub returns : goal.returns
returns c = answered.conversions
