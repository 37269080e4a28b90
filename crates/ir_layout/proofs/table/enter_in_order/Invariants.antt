use Rattle.std.proofs.Common.{◌≡◌, length}
use Rattle.ir_layout.specs.Tables.{IsSoundTable}
use Rattle.ir_layout.proofs.table.enter_in_order.Given as goal

abbrev pub invariant-loop-id : goal.invariant-loop-id
invariant-loop-id l = (length l.layouts ≡ length l.first) × IsSoundTable l.m l.layouts
