use Rattle.std.proofs.Common.{take}
use Rattle.ir_repeats.specs.Given.{ids_of_insts, Notes}
use Rattle.ir_repeats.proofs.given.Seen.note_insts.Given as goal

abbrev pub invariant-loop-at : goal.invariant-loop-at
invariant-loop-at l = Notes l.initial.self (ids_of_insts (take l.at l.insts) (take l.at l.spots)) l.self
