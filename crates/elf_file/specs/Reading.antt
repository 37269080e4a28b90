-- What the bytes of a file are as an executable, by the field names of the ELF-64 Object File Format.
use Rattle.std.specs.Prelude.{◌≡◌, ℕ, ◌+◌, ◌*◌, ◌^◌, zero, suc, Bool, ◌==◌, ◌&&◌, ◌||◌, nat_eq, nat_lt, nat_le, if◌then◌else◌, List, [], ◌∷◌, length, take, drop, map, filter, slice_index, Result, Ok, Err}
use Rattle.std.specs.List.{list_all, starts_with}
use Rattle.byteorder.specs.Endian.{little_number}
use Rattle.elf_file.specs.declared.error.ElfError.{ElfError}
use Rattle.elf_file.specs.declared.error.ElfError.TheVariants.{NotElf, WrongKind, BadSegment, Overlap, TooLarge, OutOfMemory}
use Rattle.elf_file.specs.declared.header.FileHeader.{FileHeader}
use Rattle.elf_file.specs.declared.header.ProgramHeader.{ProgramHeader}
use Rattle.elf_file.specs.Image.{ImageSegment, ProgramImage, any_shared, memory_size, most_memory}

-- the number in the n bytes from an offset, the lowest first
unfoldable pub number_at : ℕ → ℕ → List ℕ → ℕ
number_at offset n bytes = little_number n (drop offset bytes)

-- the file header at the beginning of the bytes (Elf64_Ehdr)
abbrev pub file_header : List ℕ → FileHeader
file_header bytes = record {
  e_type = number_at 16 2 bytes;
  e_machine = number_at 18 2 bytes;
  e_version = number_at 20 4 bytes;
  e_entry = number_at 24 8 bytes;
  e_phoff = number_at 32 8 bytes;
  e_shoff = number_at 40 8 bytes;
  e_flags = number_at 48 4 bytes;
  e_ehsize = number_at 52 2 bytes;
  e_phentsize = number_at 54 2 bytes;
  e_phnum = number_at 56 2 bytes;
  e_shentsize = number_at 58 2 bytes;
  e_shnum = number_at 60 2 bytes;
  e_shstrndx = number_at 62 2 bytes;
}

-- the program header at the beginning of the bytes (Elf64_Phdr)
abbrev pub program_header : List ℕ → ProgramHeader
program_header bytes = record {
  p_type = number_at 0 4 bytes;
  p_flags = number_at 4 4 bytes;
  p_offset = number_at 8 8 bytes;
  p_vaddr = number_at 16 8 bytes;
  p_paddr = number_at 24 8 bytes;
  p_filesz = number_at 32 8 bytes;
  p_memsz = number_at 40 8 bytes;
  p_align = number_at 48 8 bytes;
}

-- n program headers of 56 bytes each, one after another
abbrev pub program_headers : ℕ → List ℕ → List ProgramHeader
program_headers zero bytes = []
program_headers (suc n) bytes = program_header bytes ∷ program_headers n (drop 56 bytes)

-- a header of type PT_LOAD, which places a segment in memory
abbrev pub is_load : ProgramHeader → Bool
is_load h = h.p_type == 1

-- the headers that place segments: those of type PT_LOAD of the table that e_phoff and e_phnum give
abbrev pub load_headers : List ℕ → List ProgramHeader
load_headers bytes = filter is_load (program_headers (file_header bytes).e_phnum (drop (file_header bytes).e_phoff bytes))

-- n bytes from an offset lie in a file of this size; no bytes lie in every file, whatever the offset
abbrev pub lie_in_file : ℕ → ℕ → ℕ → Bool
lie_in_file size offset n = n == 0 || nat_le (offset + n) size

-- the file begins with a whole file header of ELF
abbrev pub is_elf : List ℕ → Bool
is_elf bytes = nat_le 64 (length bytes) && starts_with nat_eq bytes (0x7f ∷ 0x45 ∷ 0x4c ∷ 0x46 ∷ [])

-- it has 64 bits, lowest byte first, in version 1, and is an executable for RISC-V; and its program
-- headers, if any, have 56 bytes each
abbrev pub is_right_kind : List ℕ → Bool
is_right_kind bytes =
    slice_index bytes 4 == 2 && slice_index bytes 5 == 1 && slice_index bytes 6 == 1
    && (file_header bytes).e_type == 2 && (file_header bytes).e_machine == 243
    && (file_header bytes).e_version == 1
    && ((file_header bytes).e_phnum == 0 || (file_header bytes).e_phentsize == 56)

-- a segment's bytes lie in a file of this size, are no more than its memory, and that ends at 2 ^ 64 at
-- the latest
abbrev pub is_good_header : ℕ → ProgramHeader → Bool
is_good_header size h =
    lie_in_file size h.p_offset h.p_filesz && nat_le h.p_filesz h.p_memsz && nat_le (h.p_vaddr + h.p_memsz) (2 ^ 64)

-- the program headers lie in the file, and so does what they place
abbrev pub has_good_headers : List ℕ → Bool
has_good_headers bytes =
    lie_in_file (length bytes) (file_header bytes).e_phoff (56 * (file_header bytes).e_phnum)
    && list_all (is_good_header (length bytes)) (load_headers bytes)

-- the segment that a header places
abbrev pub segment_of : List ℕ → ProgramHeader → ImageSegment
segment_of bytes h = record {
  base = h.p_vaddr;
  size = h.p_memsz;
  flags = h.p_flags;
  init = take h.p_filesz (drop h.p_offset bytes);
}

-- the image of these segments, or why they make none
abbrev pub image_of : ℕ → List ImageSegment → Result ProgramImage ElfError
image_of begin segments =
    if any_shared segments then Err Overlap else
    (if nat_lt most_memory (memory_size segments) then Err TooLarge else
    Ok (record { begin = begin; segments = segments }))

-- the image of a file, or the first reason why it has none
unfoldable pub reading_of : List ℕ → Result ProgramImage ElfError
reading_of bytes =
    if is_elf bytes then
    (if is_right_kind bytes then
    (if has_good_headers bytes then image_of (file_header bytes).e_entry (map (segment_of bytes) (load_headers bytes))
    else Err BadSegment)
    else Err WrongKind)
    else Err NotElf

-- the answer is this one, unless memory ran out
abbrev pub IsAnswer : {X : Type 0} → Result X ElfError → Result X ElfError → Type 0
IsAnswer (Err OutOfMemory) wanted = Unit {0}
IsAnswer answer wanted = answer ≡ wanted
