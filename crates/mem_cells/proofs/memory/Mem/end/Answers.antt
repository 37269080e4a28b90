use Rattle.std.proofs.Common.{refl}
use Rattle.std.proofs.lemmas.Bool.{false≢true}
use Rattle.mem_cells.proofs.BlocksKept.{block_found, set_kept}
use Rattle.mem_cells.proofs.memory.Mem.end.Goals as goal

pub returns-clause-ended : goal.returns-clause-ended
returns-clause-ended c = λ memory shows.
    let kept = block_found c.args.self.now.blocks.items memory c.args.block c.index_mut-block.result.now shows c.requires c.index_mut-block.ensures.value in
    set_kept c.args.self.now.blocks.items memory c.args.block _ _ shows (record { live = refl; size = kept.size; cells = λ live. absurd (false≢true live) })
