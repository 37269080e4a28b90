use Rattle.std.proofs.Common.{◌≤◌, vec_len}
use Rattle.sr_edge.proofs.edge.read_bounded.Given as goal

abbrev pub invariant-loop : goal.invariant-loop
invariant-loop g l = vec_len l.bytes ≤ l.max
