use Rattle.flip_branches.proofs.TestLaws.{tests_turn, branches_turn as branches}
use Rattle.flip_branches.proofs.branches_turn.Goals as goal

pub returns-clause-tests : goal.returns-clause-tests
returns-clause-tests c = tests_turn

pub returns-clause-branches : goal.returns-clause-branches
returns-clause-branches c = branches
