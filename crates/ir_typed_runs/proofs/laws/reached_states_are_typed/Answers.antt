use Rattle.ir_typed_runs.specs.TypedStates.{IsTypedState}
use Rattle.ir_typed_runs.proofs.Runs.{every_state_has}
use Rattle.ir_typed_runs.proofs.Steps.{typed_stays}
use Rattle.ir_typed_runs.proofs.laws.reached_states_are_typed.Goals as goal

pub returns : goal.returns
returns c = λ p kinds s typed reached. every_state_has p (IsTypedState p kinds) (typed_stays p kinds typed) s reached
