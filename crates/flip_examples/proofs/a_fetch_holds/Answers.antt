use Rattle.flip_examples.proofs.ProgramRun.{fetch_holds}
use Rattle.flip_examples.proofs.a_fetch_holds.Goals as goal

pub returns : goal.returns
returns c = fetch_holds
