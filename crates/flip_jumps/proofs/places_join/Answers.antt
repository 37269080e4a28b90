use Rattle.flip_jumps.proofs.PlaceLaws.{goes_then, runs_go, jumps_go, places_end}
use Rattle.flip_jumps.proofs.places_join.Goals as goal

pub returns-clause-join : goal.returns-clause-join
returns-clause-join c words u v w p q r m n one two = goes_then one two

pub returns-clause-sequences : goal.returns-clause-sequences
returns-clause-sequences c words code v w p placed runs = runs_go p placed runs

pub returns-clause-jumps : goal.returns-clause-jumps
returns-clause-jumps c = jumps_go

pub returns-clause-ends : goal.returns-clause-ends
returns-clause-ends c words v w p q n m out status is go ends = places_end is go ends
