use Rattle.std.proofs.Common.{◌++◌, length, arith}
use Rattle.grammar.proofs.Reading.{reads_back}
use Rattle.ir_grammar_insts.specs.Spelling.{body_spelling}
use Rattle.ir_grammar_insts.proofs.OpenReading.{not_opened}
use Rattle.ir_grammar_insts.proofs.InstLaw.{good_inst}
use Rattle.ir_grammar_insts.proofs.InstFits.{inst_fits}
use Rattle.ir_grammar_insts.proofs.InstSpelled.{spelled_inst}
use Rattle.ir_grammar_insts.proofs.instructions_are_read_back.Goals as goal

pub returns-clause-fits : goal.returns-clause-fits
returns-clause-fits c symbols body word = inst_fits symbols body word

pub returns-clause-back : goal.returns-clause-back
returns-clause-back c body rest fits clear =
    reads_back (good_inst (length (body_spelling body ++ rest))) (body_spelling body) rest body (spelled_inst body fits) (not_opened _ rest clear) (omega arith)
