use Rattle.std.proofs.Common.{length, arith}
use Rattle.ir_grammar_insts.proofs.OpenReading.{reads_open}
use Rattle.ir_grammar_modules.proofs.BlockLaw.{good_lines}
use Rattle.ir_grammar_modules.proofs.lines_are_read.Goals as goal

pub returns : goal.returns
returns c symbols = reads_open (good_lines (length symbols)) symbols (omega arith)
