use Rattle.ir_read_modules.proofs.WholeBlocks.{block_spots}
use Rattle.ir_read_modules.proofs.blocks.block_at.Goals as goal

pub returns-clause-spots : goal.returns-clause-spots
returns-clause-spots c =
    block_spots c.in_ok-name.ensures.grows c.in_ok-lines.ensures.grows c.args.text.now c.args.toks.now c.args.at c.in_ok-name.first c.in_ok-lines.end c.in_ok-name.name c.in_ok-lines.lines.insts
    c.in_ok-lines.lines.spots.items c.requires.within c.in_ok-name.ensures.reads.1 c.in_ok-name.ensures.count c.in_ok-lines.ensures.count c.in_ok-name.ensures.reads.0 c.in_ok-lines.ensures.spots
