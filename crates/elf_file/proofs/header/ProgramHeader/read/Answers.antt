use Rattle.elf_file.proofs.Headers.{same_program_header}
use Rattle.elf_file.proofs.header.ProgramHeader.read.Goals as goal

pub returns : goal.returns
returns c =
    same_program_header _ _ _ _ _ _ _ _ _ _ _ _ _ _ _ _
    c.u32_at.ensures c.u32_at-2.ensures c.u64_at.ensures c.u64_at-2.ensures c.u64_at-3.ensures c.u64_at-4.ensures c.u64_at-5.ensures c.u64_at-6.ensures
