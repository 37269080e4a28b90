use Rattle.ir_layout.proofs.Composed.{array_composed, structure_composed, row_composed, name_composed}
use Rattle.ir_layout.proofs.laws.layouts_come_of_parts.Goals as goal

pub returns-clause-array : goal.returns-clause-array
returns-clause-array c ts count t l = array_composed ts count t l

pub returns-clause-structure : goal.returns-clause-structure
returns-clause-structure c ts row packed l = structure_composed ts row packed l

pub returns-clause-row : goal.returns-clause-row
returns-clause-row c ts t row l ls = row_composed ts t row l ls

pub returns-clause-name : goal.returns-clause-name
returns-clause-name c ts name l = name_composed ts name l
