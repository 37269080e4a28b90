use Rattle.std.proofs.Common.{◌≡◌, ◌≤◌, length}
use Rattle.ir_names.proofs.FirstItems.{AreFirstFrom}
use Rattle.ir_names.proofs.firsts.first_of_each.Given as goal

abbrev pub invariant-loop-at : goal.invariant-loop-at
invariant-loop-at l = (l.at ≤ length l.ids) × (length l.firsts.items ≡ l.count) × AreFirstFrom l.at l.ids l.firsts.items
