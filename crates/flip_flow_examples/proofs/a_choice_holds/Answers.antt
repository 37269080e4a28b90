use Rattle.flip_flow_examples.proofs.ChoiceRun.{choice_holds}
use Rattle.flip_flow_examples.proofs.a_choice_holds.Goals as goal

pub returns : goal.returns
returns c = choice_holds
