use Rattle.std.proofs.Common.{◌≡◌, ◌<◌, ℕ, get_or, length}
use Rattle.mem_cells.specs.Slots.{slot_in}
use Rattle.mem_cells.proofs.Rows.{no_slot}
use Rattle.mem_cells.proofs.blocks.eight_slots.Given as goal

abbrev pub invariant-loop-k : goal.invariant-loop-k
invariant-loop-k l =
    (length l.slots ≡ 8) × ((j : ℕ) → j < l.k → get_or l.slots j no_slot ≡ slot_in l.fn.first l.fn.step l.fn.low l.fn.high j)
