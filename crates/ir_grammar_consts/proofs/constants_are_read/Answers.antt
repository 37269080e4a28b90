use Rattle.std.proofs.Common.{length, arith}
use Rattle.grammar.proofs.Reading.{reads}
use Rattle.ir_grammar_consts.proofs.ConstLaw.{good_const}
use Rattle.ir_grammar_consts.proofs.constants_are_read.Goals as goal

pub returns : goal.returns
returns c symbols = reads (good_const (length symbols)) symbols (omega arith)
