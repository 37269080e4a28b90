use Rattle.std.proofs.Common.{◌≡◌, length}
use Rattle.std.specs.Prelude.{count_by, not}
use Rattle.ir_openings.proofs.chains.push_chain.Given as goal

abbrev pub invariant-loop-next : goal.invariant-loop-next
invariant-loop-next l = length l.seen ≡ length l.first

abbrev pub decreases-loop-next : goal.decreases-loop-next
decreases-loop-next l = count_by not l.seen
