use Rattle.std.proofs.Common.{◌≡◌, ◌-◌, ◌^◌, min, take}
use Rattle.elf_file.specs.Extents.{extents_size}
use Rattle.elf_file.proofs.extents.size_of_all.Given as goal

abbrev pub invariant-loop-extent : goal.invariant-loop-extent
invariant-loop-extent l = l.total ≡ min (2 ^ 64 - 1) (extents_size (take l.extent-index l.extents))
