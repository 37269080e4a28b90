use Rattle.ir_types.proofs.NoFaults.{no_name_fault, no_type_fault}
use Rattle.ir_types.proofs.laws.proper_modules_have_no_faults.Goals as goal

pub returns-clause-names : goal.returns-clause-names
returns-clause-names c = no_name_fault

pub returns-clause-types : goal.returns-clause-types
returns-clause-types c = no_type_fault
