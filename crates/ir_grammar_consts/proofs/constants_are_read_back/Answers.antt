use Rattle.std.proofs.Common.{◌++◌, length, arith}
use Rattle.grammar.proofs.Reading.{reads_back_closed}
use Rattle.ir_grammar_consts.specs.Spelling.{const_spelling}
use Rattle.ir_grammar_consts.proofs.ConstLaw.{good_const}
use Rattle.ir_grammar_consts.proofs.ConstFits.{const_fits}
use Rattle.ir_grammar_consts.proofs.ConstSpelled.{spelled_const}
use Rattle.ir_grammar_consts.proofs.constants_are_read_back.Goals as goal

pub returns-clause-fits : goal.returns-clause-fits
returns-clause-fits c symbols t word = const_fits symbols t word

pub returns-clause-back : goal.returns-clause-back
returns-clause-back c t rest fits =
    reads_back_closed (good_const (length (const_spelling t ++ rest))) (const_spelling t) rest t (spelled_const t fits) (omega arith)
