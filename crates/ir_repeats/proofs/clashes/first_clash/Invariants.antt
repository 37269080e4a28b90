use Rattle.ir_repeats.proofs.Clashing.{HasFound}
use Rattle.ir_repeats.proofs.clashes.first_clash.Given as goal

abbrev pub invariant-loop-at : goal.invariant-loop-at
invariant-loop-at l = HasFound l.m l.entries l.firsts l.at l.found
