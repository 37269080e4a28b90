use Rattle.std.proofs.Common.{◌≡◌, ◌++◌, ◌∷◌, [], length, take, codes, string_bytes}
use Rattle.std.specs.Fmt.{decimal}
use Rattle.std.specs.List.{flat_map}
use Rattle.point_list.specs.Points.{point_line}
use Rattle.point_list.proofs.list.points_text.Given as goal

-- the first line, and the lines of the points so far
abbrev pub invariant-loop-point : goal.invariant-loop-point
invariant-loop-point l =
    string_bytes l.text ≡ (codes "points " ++ (decimal (length l.points) ++ 10 ∷ [])) ++ flat_map point_line (take l.point-index l.points)
