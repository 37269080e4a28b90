use Rattle.std.proofs.Common.{length, arith}
use Rattle.ir_grammar_insts.proofs.OpenReading.{reads_open}
use Rattle.ir_grammar_insts.proofs.InstLaw.{good_inst}
use Rattle.ir_grammar_insts.proofs.instructions_are_read.Goals as goal

pub returns : goal.returns
returns c symbols = reads_open (good_inst (length symbols)) symbols (omega arith)
