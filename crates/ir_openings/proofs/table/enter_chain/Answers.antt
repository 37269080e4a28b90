use Rattle.std.proofs.Common.{length}
use Rattle.ir_openings.proofs.Rounds.{next_sound, next_long}
use Rattle.ir_openings.proofs.table.enter_chain.Goals as goal

pub loop-id-preserved-then-id-openings : goal.loop-id-preserved-then-id-openings
loop-id-preserved-then-id-openings c =
    let sound = next_sound c.args.m.now c.deref.result.now c.loop-id.openings c.enter.new.openings c.in-Some.id c.deref.ensures.value
    c.enter.ensures.openings c.if-id-openings.true c.loop-id.invariant.1 in
    (next_long c.args.m.now c.loop-id.openings c.enter.new.openings (length c.args.first.now) c.loop-id.invariant.1 sound c.loop-id.invariant.0, sound)
