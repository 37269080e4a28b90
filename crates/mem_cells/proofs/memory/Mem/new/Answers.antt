use Rattle.std.proofs.Common.{[], sym, subst}
use Rattle.mem_cells.specs.Shown.{KeepBlocks}
use Rattle.mem_cells.proofs.memory.Mem.new.Goals as goal

pub returns : goal.returns
returns c =
    c.in_ok-add.ensures.blocks [] [] (subst (λ blocks. KeepBlocks blocks []) (sym c.new.ensures.items) tt) c.new-2.ensures
