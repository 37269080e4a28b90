use Rattle.ir_openings.proofs.Once.{opens_once, steps_once, walks_on}
use Rattle.ir_openings.proofs.laws.indices_lead_to_one_type.Goals as goal

pub returns-clause-opens : goal.returns-clause-opens
returns-clause-opens c ts t u v opens also = opens_once ts t u v opens also

pub returns-clause-steps : goal.returns-clause-steps
returns-clause-steps c ts number t u v steps also = steps_once ts number t u v steps also

pub returns-clause-walks : goal.returns-clause-walks
returns-clause-walks c ts number numbers t u steps = walks_on ts number numbers t u steps
