use Rattle.ir_words.proofs.Numerals.{number_passes}
use Rattle.ir_words.proofs.words.width_keyword.Goals as goal

pub value-width-requires : goal.value-width-requires
value-width-requires c = number_passes c.args.digits.now c.requires
