use Rattle.std.proofs.Common.{◌++◌}
use Rattle.sr_command.proofs.Literals.{returns_none}
use Rattle.sr_command.proofs.first_form.returned_number.Goals as goal

pub returns-in-None-clause-none : goal.returns-in-None-clause-none
returns-in-None-clause-none c = λ number (literal, writes, (rest, is_end, whole)). c.in-None.ensures (literal ++ rest) whole

pub returns-in-Some-before_end-clause-none : goal.returns-in-Some-before_end-clause-none
returns-in-Some-before_end-clause-none c =
    let found = c.in-Some-before_end.ensures in
    returns_none c.number_of.result c.args.text.now c.in-Some.body.now c.in-Some-before_end.literal.now found.0 c.in-Some.ensures found.2 found.1 c.number_of.ensures
