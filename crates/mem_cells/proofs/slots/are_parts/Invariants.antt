use Rattle.std.proofs.Common.{◌≡◌, drop}
use Rattle.mem_cells.specs.Slots.{are_in_order}
use Rattle.mem_cells.proofs.slots.are_parts.Given as goal

abbrev pub invariant-loop-k : goal.invariant-loop-k
invariant-loop-k l = are_in_order 0 l.slots ≡ are_in_order l.k (drop l.k l.slots)
