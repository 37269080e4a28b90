-- The words of the executable that ends with a status.
use Rattle.std.specs.Prelude.{ℕ, List, [], ◌∷◌, ◌+◌, ◌*◌, ◌^◌}
use Rattle.elf_file.specs.Layout.{file_bytes}

-- addi x10,x0,status; addi x17,x0,93; ecall: the call numbered 93 ends the process with the status in x10
abbrev pub exit_words : ℕ → List ℕ
exit_words status = (0x00000513 + 2 ^ 20 * status) ∷ 0x05d00893 ∷ 0x00000073 ∷ []

-- the executable of these words, without data
abbrev pub executable : ℕ → List ℕ
executable status = file_bytes (exit_words status) [] 0
