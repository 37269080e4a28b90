use Rattle.ir_grammar_insts.proofs.TermLines.{term_as_lines, lines_as_term}
use Rattle.ir_grammar_insts.proofs.terminators_are_as_written.Goals as goal

pub returns-clause-into : goal.returns-clause-into
returns-clause-into c symbols body word = term_as_lines symbols body word

pub returns-clause-back : goal.returns-clause-back
returns-clause-back c symbols body word = lines_as_term symbols body word
