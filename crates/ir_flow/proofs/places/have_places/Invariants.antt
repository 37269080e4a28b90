use Rattle.ir_flow.specs.Places.{HasPlace}
use Rattle.ir_flow.proofs.OneByOne.{Hold}
use Rattle.ir_flow.proofs.places.have_places.Given as goal

abbrev pub invariant-loop-number : goal.invariant-loop-number
invariant-loop-number l = Hold (HasPlace l.places) l.numbers l.number-index
