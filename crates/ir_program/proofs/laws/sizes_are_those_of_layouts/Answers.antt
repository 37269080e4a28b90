use Rattle.ir_program.proofs.Laid.{laid_out, rows_laid_out, opens_as}
use Rattle.ir_program.proofs.laws.sizes_are_those_of_layouts.Goals as goal

pub returns-clause-types : goal.returns-clause-types
returns-clause-types c = laid_out

pub returns-clause-fields : goal.returns-clause-fields
returns-clause-fields c ts row ls have = rows_laid_out ts row ls have.0 have.1

pub returns-clause-opened : goal.returns-clause-opened
returns-clause-opened c = opens_as
