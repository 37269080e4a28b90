-- Headers with equal fields are equal.
use Rattle.std.proofs.Common.{◌≡◌, ℕ}
use Rattle.elf_file.specs.declared.header.FileHeader.{FileHeader}
use Rattle.elf_file.specs.declared.header.ProgramHeader.{ProgramHeader}

-- a header of these fields
abbrev file_header_of : ℕ → ℕ → ℕ → ℕ → ℕ → ℕ → ℕ → ℕ → ℕ → ℕ → ℕ → ℕ → ℕ → FileHeader
file_header_of a1 a2 a3 a4 a5 a6 a7 a8 a9 a10 a11 a12 a13 = record { e_type = a1; e_machine = a2; e_version = a3; e_entry = a4; e_phoff = a5; e_shoff = a6; e_flags = a7; e_ehsize = a8; e_phentsize = a9; e_phnum = a10; e_shentsize = a11; e_shnum = a12; e_shstrndx = a13 }

-- field by field
pub same_file_header : (a1 a2 a3 a4 a5 a6 a7 a8 a9 a10 a11 a12 a13 b1 b2 b3 b4 b5 b6 b7 b8 b9 b10 b11 b12 b13 : ℕ)
    → a1 ≡ b1 → a2 ≡ b2 → a3 ≡ b3 → a4 ≡ b4 → a5 ≡ b5 → a6 ≡ b6 → a7 ≡ b7 → a8 ≡ b8 → a9 ≡ b9 → a10 ≡ b10 → a11 ≡ b11 → a12 ≡ b12 → a13 ≡ b13
    → file_header_of a1 a2 a3 a4 a5 a6 a7 a8 a9 a10 a11 a12 a13 ≡ file_header_of b1 b2 b3 b4 b5 b6 b7 b8 b9 b10 b11 b12 b13
same_file_header a1 a2 a3 a4 a5 a6 a7 a8 a9 a10 a11 a12 a13 b1 b2 b3 b4 b5 b6 b7 b8 b9 b10 b11 b12 b13 e1 e2 e3 e4 e5 e6 e7 e8 e9 e10 e11 e12 e13 = cc

-- a header of these fields
abbrev program_header_of : ℕ → ℕ → ℕ → ℕ → ℕ → ℕ → ℕ → ℕ → ProgramHeader
program_header_of a1 a2 a3 a4 a5 a6 a7 a8 = record { p_type = a1; p_flags = a2; p_offset = a3; p_vaddr = a4; p_paddr = a5; p_filesz = a6; p_memsz = a7; p_align = a8 }

-- field by field
pub same_program_header : (a1 a2 a3 a4 a5 a6 a7 a8 b1 b2 b3 b4 b5 b6 b7 b8 : ℕ)
    → a1 ≡ b1 → a2 ≡ b2 → a3 ≡ b3 → a4 ≡ b4 → a5 ≡ b5 → a6 ≡ b6 → a7 ≡ b7 → a8 ≡ b8
    → program_header_of a1 a2 a3 a4 a5 a6 a7 a8 ≡ program_header_of b1 b2 b3 b4 b5 b6 b7 b8
same_program_header a1 a2 a3 a4 a5 a6 a7 a8 b1 b2 b3 b4 b5 b6 b7 b8 e1 e2 e3 e4 e5 e6 e7 e8 = cc
