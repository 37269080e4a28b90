use Rattle.flip_guards.proofs.FoundWindows.{windows_found}
use Rattle.flip_guards.proofs.windows_are_found.Goals as goal

pub returns : goal.returns
returns c = windows_found
