use Rattle.std.proofs.Common.{◌≡◌, take, map}
use Rattle.elf_file.specs.Reading.{segment_of}
use Rattle.elf_file.proofs.reader.load_segments.Given as goal

abbrev pub invariant-loop-header : goal.invariant-loop-header
invariant-loop-header l = l.segments.items ≡ map (segment_of l.bytes) (take l.header-index l.headers)
