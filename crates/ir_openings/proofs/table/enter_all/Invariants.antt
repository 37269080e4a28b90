use Rattle.std.proofs.Common.{◌≡◌, length}
use Rattle.ir_openings.specs.Openings.{AreSoundOpenings}
use Rattle.ir_openings.proofs.Rounds.{HasTried}
use Rattle.ir_openings.proofs.table.enter_all.Given as goal

abbrev pub invariant-loop-id : goal.invariant-loop-id
invariant-loop-id l =
    (length l.openings ≡ length l.first) × AreSoundOpenings l.m l.openings × HasTried l.entered l.m.types.items l.initial.openings l.openings l.id
