use Rattle.std.proofs.Common.{◌≡◌, length}
use Rattle.std.specs.Prelude.{count_by, not}
use Rattle.ir_layout.proofs.order.names_in_order.Given as goal

abbrev pub invariant-loop-steps : goal.invariant-loop-steps
invariant-loop-steps l = length l.seen.items ≡ length l.first

abbrev pub decreases-loop-steps : goal.decreases-loop-steps
decreases-loop-steps l = count_by not l.seen.items
