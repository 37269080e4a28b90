use Rattle.flip_blocks.proofs.BlockBytes.{stored_byte, stored_number}
use Rattle.flip_blocks.proofs.stored_bytes_are_known.Goals as goal

pub returns-clause-bytes : goal.returns-clause-bytes
returns-clause-bytes c = stored_byte

pub returns-clause-number : goal.returns-clause-number
returns-clause-number c = stored_number
