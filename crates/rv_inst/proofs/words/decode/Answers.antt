-- The look-up's answer is the instruction whose word it is.
use Rattle.std.proofs.Common.{Some, None, arith}
use Rattle.rv_inst.proofs.WordLemmas.{form_at_fits, exact_answer}
use Rattle.rv_inst.proofs.words.decode.Goals as goal

pub from_form-requires : goal.from_form-requires
from_form-requires c = form_at_fits c.args.word c.in-Some.form (omega arith) (cc)

pub returns-in-Some-clause-exact : goal.returns-in-Some-clause-exact
returns-in-Some-clause-exact c = exact_answer c.args.word (Some c.from_form.result) (omega arith) (cc)

pub returns-in-None-clause-exact : goal.returns-in-None-clause-exact
returns-in-None-clause-exact c = exact_answer c.args.word None (omega arith) (cc)
