-- The bytes of an executable, as the ELF-64 Object File Format lays them out: the file header, the
-- program headers, and the bytes of the segments. Every number is written with its lowest byte first.
use Rattle.std.specs.Prelude.{ℕ, ◌+◌, ◌-◌, ◌*◌, List, [], ◌∷◌, ◌++◌, length, replicate}
use Rattle.std.specs.Int.{next_multiple_of}
use Rattle.std.specs.List.{flat_map}
use Rattle.byteorder.specs.Endian.{little_bytes}
use Rattle.elf_file.specs.declared.header.FileHeader.{FileHeader}
use Rattle.elf_file.specs.declared.header.ProgramHeader.{ProgramHeader}

-- e_ident of a file of 64 bits, with numbers lowest byte first, by version 1 of the format
abbrev pub ident_bytes : List ℕ
ident_bytes = 0x7f ∷ 0x45 ∷ 0x4c ∷ 0x46 ∷ 2 ∷ 1 ∷ 1 ∷ 0 ∷ 0 ∷ 0 ∷ 0 ∷ 0 ∷ 0 ∷ 0 ∷ 0 ∷ 0 ∷ []

-- the 64 bytes of the file header (Elf64_Ehdr)
abbrev pub file_header_bytes : FileHeader → List ℕ
file_header_bytes h =
    ident_bytes ++ little_bytes 2 h.e_type ++ little_bytes 2 h.e_machine ++ little_bytes 4 h.e_version
    ++ little_bytes 8 h.e_entry ++ little_bytes 8 h.e_phoff ++ little_bytes 8 h.e_shoff
    ++ little_bytes 4 h.e_flags ++ little_bytes 2 h.e_ehsize
    ++ little_bytes 2 h.e_phentsize ++ little_bytes 2 h.e_phnum
    ++ little_bytes 2 h.e_shentsize ++ little_bytes 2 h.e_shnum ++ little_bytes 2 h.e_shstrndx

-- the 56 bytes of a program header (Elf64_Phdr)
abbrev pub program_header_bytes : ProgramHeader → List ℕ
program_header_bytes h =
    little_bytes 4 h.p_type ++ little_bytes 4 h.p_flags ++ little_bytes 8 h.p_offset
    ++ little_bytes 8 h.p_vaddr ++ little_bytes 8 h.p_paddr
    ++ little_bytes 8 h.p_filesz ++ little_bytes 8 h.p_memsz ++ little_bytes 8 h.p_align

-- an executable (2) for RISC-V (243) that starts at 0x10000 and has two program headers, and no sections
abbrev pub header_of_executable : FileHeader
header_of_executable = record {
  e_type = 2;
  e_machine = 243;
  e_version = 1;
  e_entry = 0x10000;
  e_phoff = 64;
  e_shoff = 0;
  e_flags = 0;
  e_ehsize = 64;
  e_phentsize = 56;
  e_phnum = 2;
  e_shentsize = 0;
  e_shnum = 0;
  e_shstrndx = 0;
}

-- the text of n bytes: a segment to load (1) that is read and executed (4 + 1), at 0x10000
abbrev pub header_of_text : ℕ → ProgramHeader
header_of_text n = record {
  p_type = 1;
  p_flags = 5;
  p_offset = 4096;
  p_vaddr = 0x10000;
  p_paddr = 0x10000;
  p_filesz = n;
  p_memsz = n;
  p_align = 4096;
}

-- the data with n bytes in the file, at this offset, and then extra zeros: a segment to load (1) that is
-- read and written (4 + 2), at 0x10000000
abbrev pub header_of_data : ℕ → ℕ → ℕ → ProgramHeader
header_of_data offset n extra = record {
  p_type = 1;
  p_flags = 6;
  p_offset = offset;
  p_vaddr = 0x1000_0000;
  p_paddr = 0x1000_0000;
  p_filesz = n;
  p_memsz = n + extra;
  p_align = 4096;
}

-- the first multiple of 4096 at or after n
abbrev pub page_end : ℕ → ℕ
page_end n = next_multiple_of n 4096

-- the bytes of instruction words, one after another
abbrev pub text_bytes : List ℕ → List ℕ
text_bytes words = flat_map (little_bytes 4) words

-- the executable with these words as its text, and with `init` and then `extra` zeros as its data: the
-- headers, zeros up to 4096, the text, zeros up to the next multiple of 4096, and `init`
unfoldable pub file_bytes : List ℕ → List ℕ → ℕ → List ℕ
file_bytes words init extra =
    let text_size = 4 * length words in
    let data_offset = page_end (4096 + text_size) in
    file_header_bytes header_of_executable
    ++ program_header_bytes (header_of_text text_size)
    ++ program_header_bytes (header_of_data data_offset (length init) extra)
    ++ replicate 3920 0
    ++ text_bytes words
    ++ replicate (data_offset - (4096 + text_size)) 0
    ++ init
