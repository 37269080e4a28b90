use Rattle.proper_programs.proofs.NeverCalled.{begins_at_main, never_called}
use Rattle.proper_programs.proofs.main_is_never_called.Goals as goal

pub returns-clause-begins : goal.returns-clause-begins
returns-clause-begins c = begins_at_main

pub returns-clause-never : goal.returns-clause-never
returns-clause-never c = never_called
