use Rattle.ir_model.proofs.Stored.{loads_stay, faults_stay}
use Rattle.ir_model.proofs.laws.stores_leave_the_rest.Goals as goal

pub returns-clause-loads : goal.returns-clause-loads
returns-clause-loads c = loads_stay

pub returns-clause-faults : goal.returns-clause-faults
returns-clause-faults c = faults_stay
