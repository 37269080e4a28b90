use Rattle.std.proofs.Common.{◌≡◌, length}
use Rattle.ir_layout.specs.Tables.{IsSoundTable}
use Rattle.ir_layout.proofs.Rounds.{HasTried}
use Rattle.ir_layout.proofs.table.enter_all.Given as goal

abbrev pub invariant-loop-id : goal.invariant-loop-id
invariant-loop-id l =
    (length l.layouts ≡ length l.first) × IsSoundTable l.m l.layouts × HasTried l.entered l.m.types.items l.initial.layouts l.layouts l.id
