use Rattle.std.proofs.Common.{◌++◌, length, arith}
use Rattle.grammar.proofs.Reading.{reads_back_closed}
use Rattle.ir_grammar_consts.specs.Spelling.{ty_spelling}
use Rattle.ir_grammar_consts.proofs.TypeLaw.{good_ty}
use Rattle.ir_grammar_consts.proofs.TypeFits.{ty_fits}
use Rattle.ir_grammar_consts.proofs.TypeSpelled.{spelled_ty}
use Rattle.ir_grammar_consts.proofs.types_are_read_back.Goals as goal

pub returns-clause-fits : goal.returns-clause-fits
returns-clause-fits c symbols t word = ty_fits symbols t word

pub returns-clause-back : goal.returns-clause-back
returns-clause-back c t rest fits =
    reads_back_closed (good_ty (length (ty_spelling t ++ rest))) (ty_spelling t) rest t (spelled_ty t fits) (omega arith)
