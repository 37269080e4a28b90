use Rattle.flip_operations.proofs.OperationLaws as laws
use Rattle.flip_operations.proofs.one_operand_runs.Goals as goal

pub returns : goal.returns
returns c = laws.one_runs
