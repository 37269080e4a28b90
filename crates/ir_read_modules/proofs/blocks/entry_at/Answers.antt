use Rattle.ir_read_modules.specs.BlockShapes.{lines_shape}
use Rattle.ir_read_modules.proofs.WholeBlocks.{entry_spots}
use Rattle.ir_read_modules.proofs.blocks.entry_at.Goals as goal

pub returns-clause-spots : goal.returns-clause-spots
returns-clause-spots c =
    entry_spots c.in_ok-label.ensures.grows c.in_ok-lines.ensures.grows c.args.text.now c.args.toks.now c.args.at c.in_ok-label.first c.in_ok-lines.end c.in_ok-label.label
    (lines_shape c.lines_at.new.names c.in_ok-lines.lines) c.in_ok-lines.lines.spots.items c.in_ok-label.ensures.known c.requires.within c.in_ok-label.ensures.reads.1 c.in_ok-label.ensures.count
    c.in_ok-lines.ensures.count c.in_ok-label.ensures.reads.0 c.in_ok-lines.ensures.spots
