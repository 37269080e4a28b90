use Rattle.std.proofs.Common.{refl}
use Rattle.ir_check.proofs.checks.check_limits.Goals as goal

pub returns-clause-within : goal.returns-clause-within
returns-clause-within c = c.in-None.ensures.none.0 refl
