use Rattle.ir_layout.proofs.Relations.{one_layout, one_row}
use Rattle.ir_layout.proofs.laws.types_have_one_layout.Goals as goal

pub returns-clause-one : goal.returns-clause-one
returns-clause-one c ts t l other has gives = one_layout ts t l other has gives

pub returns-clause-row : goal.returns-clause-row
returns-clause-row c ts row ls others have give = one_row ts row ls others have give
