use Rattle.std.proofs.Common.{◌≡◌, length, vec_len}
use Rattle.ir_openings.specs.Openings.{AreSoundOpenings}
use Rattle.ir_openings.proofs.table.enter_chain.Given as goal

abbrev pub invariant-loop-id : goal.invariant-loop-id
invariant-loop-id l = (length l.openings ≡ length l.first) × AreSoundOpenings l.m l.openings

abbrev pub decreases-loop-id : goal.decreases-loop-id
decreases-loop-id l = vec_len l.chain
