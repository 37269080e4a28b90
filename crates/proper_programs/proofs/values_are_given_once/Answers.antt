use Rattle.proper_programs.proofs.Results.{given_once}
use Rattle.proper_programs.proofs.values_are_given_once.Goals as goal

pub returns : goal.returns
returns c = given_once
