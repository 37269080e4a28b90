use Rattle.flip_flow_examples.proofs.CountdownRun.{countdown_holds}
use Rattle.flip_flow_examples.proofs.a_countdown_holds.Goals as goal

pub returns : goal.returns
returns c = countdown_holds
