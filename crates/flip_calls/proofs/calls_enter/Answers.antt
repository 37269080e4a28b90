use Rattle.flip_calls.proofs.CallLaws.{calls_enter as enters, arguments_are_set, callers_stay}
use Rattle.flip_calls.proofs.calls_enter.Goals as goal

pub returns-clause-enters : goal.returns-clause-enters
returns-clause-enters c = enters

pub returns-clause-arguments : goal.returns-clause-arguments
returns-clause-arguments c = arguments_are_set

pub returns-clause-callers : goal.returns-clause-callers
returns-clause-callers c = callers_stay
