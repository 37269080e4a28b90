use Rattle.rv_flips.proofs.EndingLaws.{ending_survives, ending_windows}
use Rattle.rv_flips.proofs.ending_survives.Goals as goal

pub returns-clause-survives : goal.returns-clause-survives
returns-clause-survives c = λ words init input extra n are_bytes h. ending_survives words init extra input n are_bytes h

pub returns-clause-listed : goal.returns-clause-listed
returns-clause-listed c = λ words n p r h k. ending_windows words n h p r k
