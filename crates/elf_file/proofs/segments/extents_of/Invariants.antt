use Rattle.std.proofs.Common.{◌≡◌, take, map}
use Rattle.elf_file.specs.Extents.{range_of}
use Rattle.elf_file.proofs.segments.extents_of.Given as goal

abbrev pub invariant-loop-segment : goal.invariant-loop-segment
invariant-loop-segment l = l.extents.items ≡ map range_of (take l.segment-index l.segments)
