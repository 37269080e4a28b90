use Rattle.ir_rules.specs.Places.{type_at, global_at, declare_at, function_at, inst_at_place}
use Rattle.ir_types.proofs.laws.operands_have_their_kinds.Goals as goal

pub returns-clause-types : goal.returns-clause-types
returns-clause-types c m k t proper there = proper (type_at k) t there

pub returns-clause-globals : goal.returns-clause-globals
returns-clause-globals c m k g proper there = proper (global_at k) g there

pub returns-clause-declares : goal.returns-clause-declares
returns-clause-declares c m k d proper there = proper (declare_at k) d there

pub returns-clause-heads : goal.returns-clause-heads
returns-clause-heads c m k f proper there = proper (function_at k) f there

pub returns-clause-instructions : goal.returns-clause-instructions
returns-clause-instructions c m k b i f x proper there has = proper (inst_at_place k b i) f x there has

pub returns-clause-operands : goal.returns-clause-operands
returns-clause-operands c m k b i f x proper there has = (proper (inst_at_place k b i) f x there has).typed
