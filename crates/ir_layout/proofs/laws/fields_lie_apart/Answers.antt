use Rattle.ir_layout.proofs.Places.{fields_apart, fields_within, fields_aligned}
use Rattle.ir_layout.proofs.laws.fields_lie_apart.Goals as goal

pub returns-clause-apart : goal.returns-clause-apart
returns-clause-apart c packed fields j k field below within here = fields_apart packed 0 fields j k field below within here

pub returns-clause-within : goal.returns-clause-within
returns-clause-within c packed fields k field here = fields_within packed fields k field here

pub returns-clause-aligned : goal.returns-clause-aligned
returns-clause-aligned c fields k field here aligned = fields_aligned 0 fields k field here aligned
