use Rattle.std.proofs.Common.{sym, ◌∙◌, arith}
use Rattle.sr_command.proofs.Numbers.{number_found, unparsed, miswritten}
use Rattle.sr_command.proofs.words.number_of.Goals as goal

pub returns-in-Ok : goal.returns-in-Ok
returns-in-Ok c =
    let parsed = c.in-Ok.ensures.value.0 in
    number_found c.args.word.now c.in-Ok.number (omega (arith, parsed.0.1, parsed.1)) (sym c.is_decimal.ensures ∙ c.if-is_decimal.true)

pub returns-in_default : goal.returns-in_default
returns-in_default c = miswritten c.args.word.now c.in-Ok.number c.parse.result c.in-Ok.is c.parse.ensures.value.0 (sym c.is_decimal.ensures ∙ c.if-is_decimal.false)

pub returns-in_default-2 : goal.returns-in_default-2
returns-in_default-2 c = unparsed c.args.word.now c.parse.result c.in_default.field-0 c.in_default.is c.parse.ensures.value.0
