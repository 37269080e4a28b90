use Rattle.flip_branches.proofs.SwitchLaws.{switches_turn as switches}
use Rattle.flip_branches.proofs.switches_turn.Goals as goal

pub returns : goal.returns
returns c = switches
