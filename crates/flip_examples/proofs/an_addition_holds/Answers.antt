use Rattle.flip_examples.proofs.AdditionRun.{addition_holds}
use Rattle.flip_examples.proofs.an_addition_holds.Goals as goal

pub returns : goal.returns
returns c = addition_holds
