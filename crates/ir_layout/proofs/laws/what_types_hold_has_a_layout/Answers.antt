use Rattle.ir_layout.proofs.Held.{held_sized, never_itself}
use Rattle.ir_layout.proofs.laws.what_types_hold_has_a_layout.Goals as goal

pub returns-clause-held : goal.returns-clause-held
returns-clause-held c ts t name sized holds = held_sized ts t name sized holds

pub returns-clause-never_itself : goal.returns-clause-never_itself
returns-clause-never_itself c ts name holds sized = never_itself ts name holds sized
