use Rattle.sr_command.proofs.Hexadecimals.{padded}
use Rattle.sr_command.proofs.forms.disasm.numbers_of.Goals as goal

pub returns : goal.returns
returns c = rw (c.laid_out.ensures, c.in_radix.ensures, c.laid_out-2.ensures, c.in_radix-2.ensures, padded c.args.address, padded c.args.word) at c.format.ensures.ok
