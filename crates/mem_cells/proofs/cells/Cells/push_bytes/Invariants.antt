use Rattle.std.proofs.Common.{◌≡◌, ◌++◌, map, take}
use Rattle.mem_cells.specs.Slots.{byte_slot}
use Rattle.mem_cells.proofs.cells.Cells.push_bytes.Given as goal

abbrev pub invariant-loop-byte : goal.invariant-loop-byte
invariant-loop-byte l = l.self.slots.items ≡ l.fn.self.slots.items ++ map byte_slot (take l.byte-index l.bytes)
