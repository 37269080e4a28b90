use Rattle.std.proofs.Common.{◌≡◌, ℕ}
use Rattle.std.specs.Prelude.{◌||◌}
use Rattle.point_list.specs.Walk.{begun_before}
use Rattle.point_list.specs.Marks.{is_marked}
use Rattle.point_list.proofs.walk.mark_windows.Given as goal

-- the windows that the words so far begin
abbrev pub invariant-loop-k : goal.invariant-loop-k
invariant-loop-k l = (i r : ℕ) → is_marked l.marks i r ≡ (is_marked l.initial.marks i r || begun_before l.text l.base l.k i r)
