use Rattle.std.proofs.Common.{◌≡◌}
use Rattle.rv_machine.proofs.Storing.{PassedBy}
use Rattle.rv_machine.proofs.memory.store.Given as goal

abbrev pub invariant-loop-i : goal.invariant-loop-i
invariant-loop-i l = record { same : l.segments ≡ l.fn.segments; passed : PassedBy l.address l.bytes l.fn.segments l.i }
