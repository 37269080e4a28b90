use Rattle.proper_programs.proofs.TypedModules as typed_modules
use Rattle.proper_programs.proofs.proper_programs_are_typed.Goals as goal

pub returns : goal.returns
returns c = typed_modules.typed
