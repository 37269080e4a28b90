use Rattle.std.proofs.Common.{◌≡◌, length}
use Rattle.ir_openings.specs.Openings.{AreSoundOpenings, count_empty}
use Rattle.ir_openings.proofs.table.Openings.of_module.Given as goal

abbrev pub invariant-loop : goal.invariant-loop
invariant-loop l = (length l.of_name.items ≡ length l.first.items) × AreSoundOpenings l.m l.of_name.items

abbrev pub decreases-loop : goal.decreases-loop
decreases-loop l = count_empty l.of_name.items
