use Rattle.kept_states.proofs.Moves as moves
use Rattle.kept_states.proofs.blocks_are_kept.Goals as goal

pub returns : goal.returns
returns c = moves.blocks
