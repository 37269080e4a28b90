use Rattle.std.proofs.Common.{rules}
use Rattle.ir_words.proofs.Numerals.{number_passes}
use Rattle.ir_lex.proofs.symbols.number_below.Goals as goal

pub value-number-requires : goal.value-number-requires
value-number-requires c = number_passes c.args.digits.now (search rules)
