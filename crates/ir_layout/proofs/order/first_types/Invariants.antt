use Rattle.std.proofs.Common.{◌≡◌, ◌≤◌, length}
use Rattle.ir_layout.proofs.Numbered.{AreFirstFrom}
use Rattle.ir_layout.proofs.order.first_types.Given as goal

abbrev pub invariant-loop-at : goal.invariant-loop-at
invariant-loop-at l = (l.at ≤ length l.types) × (length l.first.items ≡ l.count) × AreFirstFrom l.at l.types l.first.items
