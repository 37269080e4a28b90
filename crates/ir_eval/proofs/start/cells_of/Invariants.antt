use Rattle.std.proofs.Common.{take}
use Rattle.mem_cells.specs.Shown.{HasCells}
use Rattle.program_tables.specs.Shapes.{pieces_cells}
use Rattle.ir_eval.proofs.start.cells_of.Given as goal

abbrev pub invariant-loop-piece : goal.invariant-loop-piece
invariant-loop-piece l = HasCells (pieces_cells (take l.piece-index l.pieces)) l.cells
