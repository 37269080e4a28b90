use Rattle.std.proofs.Common.{◌≡◌, ◌++◌}
use Rattle.point_list.specs.Marks.{points_at}
use Rattle.point_list.proofs.marks.push_points.Given as goal

-- the points of the registers so far
abbrev pub invariant-loop-reg : goal.invariant-loop-reg
invariant-loop-reg l = l.points.items ≡ l.initial.points.items ++ points_at l.pc l.mark l.reg
