use Rattle.ir_rules.specs.Places.{type_at, global_at}
use Rattle.make_program.proofs.program.program_of.Goals as goal

pub of_module-requires-clause-sized : goal.of_module-requires-clause-sized
of_module-requires-clause-sized c = λ k t at. c.requires.checked.proper.types (type_at k) t at

pub of_module-requires-clause-globals : goal.of_module-requires-clause-globals
of_module-requires-clause-globals c = λ k g at. (c.requires.checked.proper.types (global_at k) g at).0
