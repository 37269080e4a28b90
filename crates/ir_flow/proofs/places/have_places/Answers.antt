use Rattle.std.proofs.Common.{arith, slice_index_or}
use Rattle.std.proofs.lemmas.Option.{slice_get-get_or}
use Rattle.ir_flow.specs.Places.{HasPlace}
use Rattle.ir_flow.proofs.OneByOne.{yes, no, not_true, contained_at, hold_at, hold_all, of_contained}
use Rattle.ir_flow.proofs.places.have_places.Goals as goal

pub returns-then-not-has_place : goal.returns-then-not-has_place
returns-then-not-has_place c =
    let numbers = c.args.numbers.now in
    let at = c.loop-number.number-index in
    let q = slice_index_or numbers at 0 in
    let here = slice_get-get_or numbers at 0 (omega arith) in
    no _ (λ all. not_true (HasPlace c.args.places.now q) c.has_place.result (cc) c.has_place.ensures (all q (contained_at numbers at q here)))

pub loop-number-preserved : goal.loop-number-preserved
loop-number-preserved c =
    let numbers = c.args.numbers.now in
    let at = c.loop-number.number-index in
    hold_at (HasPlace c.args.places.now) numbers at (slice_index_or numbers at 0) (slice_get-get_or numbers at 0 (omega arith)) (c.has_place.ensures.0 (cc))
    c.loop-number.invariant

pub returns : goal.returns
returns c =
    let numbers = c.args.numbers.now in
    let P = HasPlace c.args.places.now in
    yes _ (of_contained P numbers (hold_all P numbers c.loop-number.number-index (omega arith) c.loop-number.invariant))
