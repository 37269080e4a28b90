use Rattle.flip_texts.proofs.TextLaws.{sequence_moves}
use Rattle.flip_texts.proofs.sequences_move.Goals as goal

pub returns : goal.returns
returns c = sequence_moves
