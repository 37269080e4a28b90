use Rattle.ir_placed_runs.specs.OwnedBlocks.{HasOwnBlocks}
use Rattle.ir_placed_runs.proofs.Owned.{owns_stays}
use Rattle.ir_typed_runs.proofs.Runs.{every_state_has}
use Rattle.ir_placed_runs.proofs.laws.owned_blocks_stay.Goals as goal

pub returns-clause-stays : goal.returns-clause-stays
returns-clause-stays c = owns_stays

pub returns-clause-reached : goal.returns-clause-reached
returns-clause-reached c = λ p s reached. every_state_has p (HasOwnBlocks p) (owns_stays p) s reached
