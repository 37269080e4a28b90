use Rattle.std.proofs.Common.{◌≡◌, ◌<◌, ◌≤◌, ◌-◌, ◌^◌, drop, length}
use Rattle.mem_cells.specs.Slots.{word_of}
use Rattle.mem_cells.proofs.slots.low_word.Given as goal

abbrev pub invariant-loop-k : goal.invariant-loop-k
invariant-loop-k l =
    (l.k ≤ length l.slots) × (l.word ≡ word_of (λ s. s.low) (drop l.k l.slots)) × (l.word < 256 ^ (length l.slots - l.k))
