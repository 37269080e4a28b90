use Rattle.std.proofs.Common.{◌≡◌, ℕ, length, take}
use Rattle.std.specs.Prelude.{◌&&◌}
use Rattle.std.specs.List.{list_any}
use Rattle.point_list.specs.Marks.{is_marked, is_at}
use Rattle.point_list.proofs.choose.asked_marks.Given as goal

-- the points asked so far
abbrev pub invariant-loop-point : goal.invariant-loop-point
invariant-loop-point l =
    record {
      len : length l.marks.items ≡ length l.window;
      marks : (k r : ℕ) → is_marked l.marks.items k r ≡ (is_marked l.window k r && list_any (is_at l.base k r) (take l.point-index l.asked));
    }
