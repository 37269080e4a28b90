use Rattle.std.proofs.Common.{◌≡◌, ◌+◌, Bool, true, if◌then◌else◌, length, arith, sym, subst}
use Rattle.ir_openings.proofs.Rounds.{HasTried, next_sound, next_long, next_tried}
use Rattle.ir_openings.proofs.table.enter_all.Goals as goal
use Rattle.ir_openings.proofs.table.enter_all.Goals.{then-enter, else-enter}

pub loop-id-preserved : goal.loop-id-preserved
loop-id-preserved c =
    let sound = next_sound c.args.m.now c.deref.result.now c.loop-id.openings c.enter.new.openings c.loop-id.id c.deref.ensures.value
    c.enter.ensures.openings (omega arith) c.loop-id.invariant.1 in
    let long = next_long c.args.m.now c.loop-id.openings c.enter.new.openings (length c.args.first.now) c.loop-id.invariant.1 sound c.loop-id.invariant.0 in
    let tried = next_tried c.loop-id.entered c.enter.result c.args.m.now.types.items c.deref.result.now c.args.openings.now c.loop-id.openings c.enter.new.openings
    c.loop-id.id c.deref.ensures.value c.enter.ensures.openings c.enter.ensures.entered (omega arith) c.loop-id.invariant.2 in
    let entered : (if c.enter.result then true else c.loop-id.entered) ≡ c.if-enter.entered =
    elim c.if-enter.branch [
      | then-enter w ↦ rw w.if-enter.true (sym w.entered-is)
      | else-enter w ↦ rw w.if-enter.false (sym w.entered-is)
    ] in
    (long, sound, subst (λ (b : Bool). HasTried b c.args.m.now.types.items c.args.openings.now c.enter.new.openings (c.loop-id.id + 1)) entered tried)
