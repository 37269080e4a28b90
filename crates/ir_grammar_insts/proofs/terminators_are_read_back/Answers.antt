use Rattle.std.proofs.Common.{◌++◌, length, arith}
use Rattle.grammar.proofs.Reading.{reads_back}
use Rattle.ir_grammar_insts.specs.Spelling.{body_spelling}
use Rattle.ir_grammar_insts.proofs.OpenReading.{not_opened}
use Rattle.ir_grammar_insts.proofs.TermLaw.{good_term}
use Rattle.ir_grammar_insts.proofs.InstFits.{term_fits}
use Rattle.ir_grammar_insts.proofs.TermSpelled.{spelled_term}
use Rattle.ir_grammar_insts.proofs.terminators_are_read_back.Goals as goal

pub returns-clause-fits : goal.returns-clause-fits
returns-clause-fits c symbols body word = term_fits symbols body word

pub returns-clause-back : goal.returns-clause-back
returns-clause-back c body rest fits clear =
    reads_back (good_term (length (body_spelling body ++ rest))) (body_spelling body) rest body (spelled_term body fits) (not_opened _ rest clear) (omega arith)
