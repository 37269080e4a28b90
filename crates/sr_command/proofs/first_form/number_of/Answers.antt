use Rattle.std.proofs.Common.{◌≡◌, w32}
use Rattle.std.proofs.lemmas.Int.{to_z-of_z}
use Rattle.sr_command.proofs.Literals.{literal_is_text, parsed_is, nine_digits_fit}
use Rattle.sr_command.proofs.first_form.number_of.Goals as goal

pub returns-in-Err : goal.returns-in-Err
returns-in-Err c = λ number h. c.in-Err.ensures.cases.0 (literal_is_text c.args.literal.now number h)

pub returns-in_default : goal.returns-in_default
returns-in_default c = λ number h.
    let same = c.in-Ok.ensures.cases.0 in
    let parsed = rw same at c.parse.ensures.value.0 in
    let is = parsed_is c.args.literal.now number c.parse.result h parsed in
    let same_number : c.in-Ok-parse.number ≡ number = cc (is, c.in-Ok-parse.is) in
    let back = to_z-of_z w32 number (nine_digits_fit number h.0) in
    let yes = c.is_written.ensures.1 (rw (same_number, back) h) in
    let no = rw c.if-is_written.false at yes in
    cc (no)

pub returns-in_default-2 : goal.returns-in_default-2
returns-in_default-2 c = λ number h.
    let same = c.in-Ok.ensures.cases.0 in
    let parsed = rw same at c.parse.ensures.value.0 in
    let is = parsed_is c.args.literal.now number c.parse.result h parsed in
    cc (c.in_default.is)
