use Rattle.rv_inst.proofs.WordLemmas.{word_functional}
use Rattle.rv_inst.proofs.words.words_are_distinct.Goals as goal

pub returns-clause-one_instruction : goal.returns-clause-one_instruction
returns-clause-one_instruction c = word_functional
