use Rattle.std.proofs.Common.{length, arith}
use Rattle.ir_grammar_insts.proofs.OpenReading.{reads_open}
use Rattle.ir_grammar_insts.proofs.InstLaw.{good_phi}
use Rattle.ir_grammar_insts.proofs.phis_are_read.Goals as goal

pub returns : goal.returns
returns c symbols = reads_open (good_phi (length symbols)) symbols (omega arith)
