use Rattle.std.proofs.Common.{length, arith}
use Rattle.ir_grammar_insts.proofs.OpenReading.{reads_open}
use Rattle.ir_grammar_insts.proofs.TermLaw.{good_term}
use Rattle.ir_grammar_insts.proofs.terminators_are_read.Goals as goal

pub returns : goal.returns
returns c symbols = reads_open (good_term (length symbols)) symbols (omega arith)
