use Rattle.std.proofs.Common.{take}
use Rattle.ir_repeats.specs.Given.{ids_of_blocks, Notes}
use Rattle.ir_repeats.proofs.given.Seen.note_blocks.Given as goal

abbrev pub invariant-loop-at : goal.invariant-loop-at
invariant-loop-at l = Notes l.initial.self (ids_of_blocks l.spot (take l.at l.blocks) (take l.at l.spots)) l.self
