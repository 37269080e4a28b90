use Rattle.ir_placed_runs.specs.Places.{HasPlaces}
use Rattle.ir_placed_runs.proofs.Placed as placed
use Rattle.ir_typed_runs.proofs.Runs.{every_state_has}
use Rattle.ir_placed_runs.proofs.laws.places_stay.Goals as goal

pub returns-clause-stays : goal.returns-clause-stays
returns-clause-stays c = placed.places_stay

pub returns-clause-next : goal.returns-clause-next
returns-clause-next c = placed.placed_next

pub returns-clause-reached : goal.returns-clause-reached
returns-clause-reached c = λ p s whole reached. placed.placed_next p s (every_state_has p (HasPlaces p) (placed.places_stay p whole) s reached)
