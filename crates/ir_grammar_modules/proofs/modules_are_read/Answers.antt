use Rattle.std.proofs.Common.{length, arith}
use Rattle.grammar.proofs.Reading.{reads_all}
use Rattle.ir_grammar_modules.proofs.ItemLaw.{good_module}
use Rattle.ir_grammar_modules.proofs.modules_are_read.Goals as goal

pub returns : goal.returns
returns c symbols = reads_all (good_module (length symbols)) symbols (omega arith)
