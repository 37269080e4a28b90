-- Ranges of addresses.
use Rattle.std.specs.Prelude.{ℕ, Bool, nat_lt, if◌then◌else◌, List, sum_by, Option, Some, None}
use Rattle.elf_file.specs.declared.error.ElfError.{ElfError}
use Rattle.elf_file.specs.declared.error.ElfError.TheVariants.{Overlap, TooLarge}
use Rattle.elf_file.specs.declared.extents.Extent.{Extent}
use Rattle.elf_file.specs.declared.header.ProgramHeader.{ProgramHeader}
use Rattle.elf_file.specs.Image.{ImageSegment, overlap, any_pair, most_memory}

-- two of the ranges share an address
abbrev pub any_extents_shared : List Extent → Bool
any_extents_shared extents = any_pair (λ x y. overlap x.base x.size y.base y.size) extents

-- how many bytes the ranges have
abbrev pub extents_size : List Extent → ℕ
extents_size extents = sum_by (λ x. x.size) extents

-- why segments with these ranges make no image
abbrev pub refusal_of : List Extent → Option ElfError
refusal_of extents =
    if any_extents_shared extents then Some Overlap else
    (if nat_lt most_memory (extents_size extents) then Some TooLarge else None)

-- the addresses of the segment that a header places
abbrev pub extent_of : ProgramHeader → Extent
extent_of h = record { base = h.p_vaddr; size = h.p_memsz }

-- the addresses of a segment
abbrev pub range_of : ImageSegment → Extent
range_of s = record { base = s.base; size = s.size }
