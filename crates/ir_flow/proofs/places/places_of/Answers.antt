use Rattle.std.proofs.Common.{arith, slice_index_or}
use Rattle.std.proofs.lemmas.Option.{slice_get-get_or}
use Rattle.ir_flow.proofs.Placed.{placed_next, placed_all}
use Rattle.ir_flow.proofs.places.places_of.Goals as goal

pub loop-at-preserved : goal.loop-at-preserved
loop-at-preserved c =
    let numbers = c.args.numbers.now in
    let at = c.loop-at.at in
    placed_next numbers at (slice_index_or numbers at 0) c.loop-at.places c.insert.new.self (slice_get-get_or numbers at 0 (omega arith))
    c.in_ok-insert.ensures.updates c.loop-at.invariant

pub returns : goal.returns
returns c = placed_all c.args.numbers.now c.loop-at.at c.loop-at.places (omega arith) c.loop-at.invariant
