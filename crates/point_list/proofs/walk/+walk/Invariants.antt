use Rattle.std.proofs.Common.{◌*◌, ◌+◌}
use Rattle.point_list.proofs.walk.+walk.Given as goal

abbrev pub decreases-mark_way : goal.decreases-mark_way
decreases-mark_way l = 2 * l.words

abbrev pub decreases-mark_later : goal.decreases-mark_later
decreases-mark_later l = 2 * l.words + 1
