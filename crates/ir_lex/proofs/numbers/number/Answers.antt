use Rattle.ir_lex.specs.Bytes.{is_digit}
use Rattle.ir_words.proofs.Numerals.{Passes-take}
use Rattle.ir_lex.proofs.numbers.number.Goals as goal

pub is_below-requires-clause-digits : goal.is_below-requires-clause-digits
is_below-requires-clause-digits c = rw c.digit_count-count.ensures.count (Passes-take is_digit c.args.text.now)
