use Rattle.std.proofs.Common.{[], replicate}
use Rattle.ir_model.specs.Values.{Unknown}
use Rattle.mem_cells.proofs.memory.Mem.make.Goals as goal

pub returns-clause-blocks : goal.returns-clause-blocks
returns-clause-blocks c = λ memory shows.
    c.add.ensures.blocks memory (replicate c.args.size Unknown) shows (c.in_ok-push_poison.ensures [] c.new-cells.ensures)
