use Rattle.std.proofs.Common.{length, arith}
use Rattle.grammar.proofs.Reading.{reads}
use Rattle.ir_grammar_consts.proofs.TypeLaw.{good_ty}
use Rattle.ir_grammar_consts.proofs.types_are_read.Goals as goal

pub returns : goal.returns
returns c symbols = reads (good_ty (length symbols)) symbols (omega arith)
