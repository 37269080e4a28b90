use Rattle.ir_grammar_modules.proofs.LinesToldApart.{lines_in, lines_out}
use Rattle.ir_grammar_modules.proofs.blocks_are_as_written.Goals as goal

pub returns-clause-into : goal.returns-clause-into
returns-clause-into c symbols insts word = lines_in symbols insts word

pub returns-clause-back : goal.returns-clause-back
returns-clause-back c symbols insts word = lines_out symbols insts word
