use Rattle.elf_file.proofs.Headers.{same_file_header}
use Rattle.elf_file.proofs.header.FileHeader.read.Goals as goal

pub returns : goal.returns
returns c =
    same_file_header _ _ _ _ _ _ _ _ _ _ _ _ _ _ _ _ _ _ _ _ _ _ _ _ _ _
    c.u16_at.ensures c.u16_at-2.ensures c.u32_at.ensures c.u64_at.ensures c.u64_at-2.ensures c.u64_at-3.ensures c.u32_at-2.ensures c.u16_at-3.ensures c.u16_at-4.ensures c.u16_at-5.ensures c.u16_at-6.ensures c.u16_at-7.ensures c.u16_at-8.ensures
