use Rattle.ir_flow.proofs.Placed.{PlacedUpTo}
use Rattle.ir_flow.proofs.places.places_of.Given as goal

abbrev pub invariant-loop-at : goal.invariant-loop-at
invariant-loop-at l = PlacedUpTo l.numbers l.at l.places
