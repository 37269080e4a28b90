use Rattle.std.proofs.Common.{◌+◌, ◌≤◌}
use Rattle.std.specs.List.{AllAdjacentBelow}
use Rattle.elf_file.proofs.extents.neighbours_share.Given as goal

abbrev pub invariant-loop-next : goal.invariant-loop-next
invariant-loop-next l = AllAdjacentBelow (λ x y. x.base + x.size ≤ y.base) l.extents l.next
