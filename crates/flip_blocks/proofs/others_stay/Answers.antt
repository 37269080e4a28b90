use Rattle.flip_blocks.proofs.BlockBytes.{other_byte, other_slot}
use Rattle.flip_blocks.proofs.others_stay.Goals as goal

pub returns-clause-bytes : goal.returns-clause-bytes
returns-clause-bytes c = other_byte

pub returns-clause-slots : goal.returns-clause-slots
returns-clause-slots c = other_slot
