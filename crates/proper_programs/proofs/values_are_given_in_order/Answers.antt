use Rattle.proper_programs.proofs.Results.{given_in_order}
use Rattle.proper_programs.proofs.values_are_given_in_order.Goals as goal

pub returns : goal.returns
returns c = given_in_order
