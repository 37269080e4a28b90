use Rattle.std.proofs.Common.{take}
use Rattle.ir_repeats.specs.Given.{ids_of_params, Notes}
use Rattle.ir_repeats.proofs.given.Seen.note_params.Given as goal

abbrev pub invariant-loop-param : goal.invariant-loop-param
invariant-loop-param l = Notes l.initial.self (ids_of_params l.spot (take l.param-index l.params)) l.self
