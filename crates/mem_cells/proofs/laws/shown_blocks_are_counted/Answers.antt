use Rattle.mem_cells.proofs.BlocksKept.{as_many_blocks}
use Rattle.mem_cells.proofs.laws.shown_blocks_are_counted.Goals as goal

pub returns : goal.returns
returns c = λ memory mem shows. as_many_blocks mem.blocks.items memory shows
