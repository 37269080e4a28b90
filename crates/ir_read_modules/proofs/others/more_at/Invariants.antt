-- the lines so far and those still to come are the block's
use Rattle.std.proofs.Common.{◌-◌}
use Rattle.ir_read_modules.proofs.LinesSoFar.{InstsLeft}
use Rattle.ir_read_modules.proofs.others.more_at.Given as goal

abbrev pub invariant-loop : goal.invariant-loop
invariant-loop l = InstsLeft l.text l.toks l.budget (l.budget - l.counter) l.fn.names l.names l.fn.lines l.lines l.at l.next
