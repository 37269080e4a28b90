use Rattle.ir_words.proofs.Numerals.{digit_low, passes_at, value_step}
use Rattle.ir_words.specs.Digits.{is_digit}
use Rattle.ir_words.proofs.digits.value.Goals as goal

pub overflow_sub-digit : goal.overflow_sub-digit
overflow_sub-digit c = digit_low _ (passes_at is_digit c.args.digits.now c.loop-digit.digit-index c.requires c.loop-digit-test.true)

pub loop-digit-preserved : goal.loop-digit-preserved
loop-digit-preserved c =
    rw (c.saturating_add-value.ensures, c.saturating_mul.ensures, c.from.ensures)
    (value_step c.args.digits.now c.loop-digit.digit-index c.loop-digit.value _ c.requires c.loop-digit-test.true c.loop-digit.invariant)
