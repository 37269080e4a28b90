use Rattle.std.proofs.Common.{◌≡◌, take}
use Rattle.std.specs.List.{flat_map}
use Rattle.sr_command.specs.Forms.Disasm.{segment_lines}
use Rattle.sr_command.proofs.forms.disasm.disassembly.Given as goal

-- the lines of the segments so far
abbrev pub invariant-loop-segment : goal.invariant-loop-segment
invariant-loop-segment l = l.text.items ≡ flat_map segment_lines (take l.segment-index l.segment-items)
