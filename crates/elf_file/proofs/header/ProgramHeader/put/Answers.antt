use Rattle.byteorder.specs.Endian.{little_bytes}
use Rattle.elf_file.proofs.Appends.{append-eight}
use Rattle.elf_file.proofs.header.ProgramHeader.put.Goals as goal

pub returns : goal.returns
returns c =
    cc (
      append-eight c.args.file.now.items (little_bytes 4 c.args.self.now.p_type) (little_bytes 4 c.args.self.now.p_flags) (little_bytes 8 c.args.self.now.p_offset) (little_bytes 8 c.args.self.now.p_vaddr) (little_bytes 8 c.args.self.now.p_paddr) (little_bytes 8 c.args.self.now.p_filesz) (little_bytes 8 c.args.self.now.p_memsz) (little_bytes 8 c.args.self.now.p_align),
      c.in_ok-put_u32.ensures,
      c.in_ok-put_u32-2.ensures,
      c.in_ok-put_u64.ensures,
      c.in_ok-put_u64-2.ensures,
      c.in_ok-put_u64-3.ensures,
      c.in_ok-put_u64-4.ensures,
      c.in_ok-put_u64-5.ensures,
      c.in_ok-put_u64-6.ensures,
    )
