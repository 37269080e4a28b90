-- The look-up by opcode is that of the table.
use Rattle.std.proofs.Common.{arith}
use Rattle.rv_inst.proofs.WordLemmas.{form_at_found, form_at_missing}
use Rattle.rv_inst.proofs.words.form_in_word.Goals as goal

pub returns-in-Some : goal.returns-in-Some
returns-in-Some c = cc (form_at_found c.args.word c.in-Some.kind (omega arith) (cc), c.form_of.ensures, c.operands_from.ensures, c.row_of.ensures.value, c.cut-fields.ensures)

pub returns-in-None : goal.returns-in-None
returns-in-None c = cc (form_at_missing c.args.word (omega arith) (cc))
