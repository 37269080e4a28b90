use Rattle.std.proofs.Common.{◌≡◌, drop}
use Rattle.rv_model.specs.Memory.{bytes_at}
use Rattle.rv_machine.proofs.memory.bytes_at.Given as goal

abbrev pub invariant-loop-segment : goal.invariant-loop-segment
invariant-loop-segment l =
    bytes_at l.flag l.address l.count l.segments ≡ bytes_at l.flag l.address l.count (drop l.segment-index l.segments)
