use Rattle.std.proofs.Common.{◌≡◌, length}
use Rattle.ir_repeats.specs.Entries.{AreEarliest}
use Rattle.ir_repeats.proofs.clashes.earliest.Given as goal

abbrev pub invariant-loop-at : goal.invariant-loop-at
invariant-loop-at l = (length l.firsts.items ≡ l.count) × AreEarliest l.entries l.at l.firsts.items
