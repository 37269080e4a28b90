use Rattle.flip_blocks.proofs.StoreLaw.{block_is_stored}
use Rattle.flip_blocks.proofs.blocks_are_stored.Goals as goal

pub returns : goal.returns
returns c = block_is_stored
