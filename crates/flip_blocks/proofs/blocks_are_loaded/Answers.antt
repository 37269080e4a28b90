use Rattle.flip_blocks.proofs.LoadLaw.{block_is_loaded}
use Rattle.flip_blocks.proofs.blocks_are_loaded.Goals as goal

pub returns : goal.returns
returns c = block_is_loaded
