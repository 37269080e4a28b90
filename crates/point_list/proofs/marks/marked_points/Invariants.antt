use Rattle.std.proofs.Common.{◌≡◌}
use Rattle.point_list.specs.Marks.{points_of}
use Rattle.point_list.proofs.marks.marked_points.Given as goal

-- the points of the words so far
abbrev pub invariant-loop-k : goal.invariant-loop-k
invariant-loop-k l = l.points.items ≡ points_of l.base l.marks l.k
