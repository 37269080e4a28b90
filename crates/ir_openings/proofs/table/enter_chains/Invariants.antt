use Rattle.std.proofs.Common.{◌≡◌, length}
use Rattle.ir_openings.specs.Openings.{AreSoundOpenings}
use Rattle.ir_openings.proofs.table.enter_chains.Given as goal

abbrev pub invariant-loop-id : goal.invariant-loop-id
invariant-loop-id l = (length l.seen.items ≡ length l.first) × (length l.openings ≡ length l.first) × AreSoundOpenings l.m l.openings
