use Rattle.flip_operations.proofs.OperationLaws as laws
use Rattle.flip_operations.proofs.two_operands_run.Goals as goal

pub returns : goal.returns
returns c = laws.two_run
