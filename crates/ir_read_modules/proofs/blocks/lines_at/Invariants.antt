-- the phis so far and the lines still to come are the block's
use Rattle.std.proofs.Common.{◌-◌}
use Rattle.ir_read_modules.proofs.LinesSoFar.{LinesLeft}
use Rattle.ir_read_modules.proofs.blocks.lines_at.Given as goal

abbrev pub invariant-loop-read : goal.invariant-loop-read
invariant-loop-read l = LinesLeft l.text l.toks l.budget (l.budget - l.read) l.fn.names l.names l.lines l.at l.next
