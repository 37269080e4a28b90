use Rattle.ir_limits.proofs.Alone.{within_or_passed, never_both, one_first}
use Rattle.ir_limits.proofs.laws.limits_have_one_answer.Goals as goal

pub returns : goal.returns
returns c = record { some = within_or_passed; not_both = never_both; alone = one_first }
