use Rattle.mem_cells.proofs.BlocksKept.{block_found}
use Rattle.mem_cells.proofs.memory.Mem.size.Goals as goal

pub returns : goal.returns
returns c = λ memory shows.
    let kept = block_found c.args.self.now.blocks.items memory c.args.block c.index.result.now shows c.requires c.index.ensures in kept.size
