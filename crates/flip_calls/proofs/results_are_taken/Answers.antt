use Rattle.flip_calls.proofs.CallLaws.{results_are_taken as taken}
use Rattle.flip_calls.proofs.results_are_taken.Goals as goal

pub returns : goal.returns
returns c = taken
