use Rattle.proper_programs.proofs.WholeModules as whole_modules
use Rattle.proper_programs.proofs.proper_programs_are_whole.Goals as goal

pub returns : goal.returns
returns c = whole_modules.whole
