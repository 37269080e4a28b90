use Rattle.byteorder.specs.Endian.{little_bytes}
use Rattle.elf_file.specs.Layout.{ident_bytes}
use Rattle.elf_file.proofs.Appends.{append-fourteen}
use Rattle.elf_file.proofs.header.FileHeader.put.Goals as goal

pub returns : goal.returns
returns c =
    cc (
      append-fourteen c.args.file.now.items ident_bytes (little_bytes 2 c.args.self.now.e_type) (little_bytes 2 c.args.self.now.e_machine) (little_bytes 4 c.args.self.now.e_version) (little_bytes 8 c.args.self.now.e_entry) (little_bytes 8 c.args.self.now.e_phoff) (little_bytes 8 c.args.self.now.e_shoff) (little_bytes 4 c.args.self.now.e_flags) (little_bytes 2 c.args.self.now.e_ehsize) (little_bytes 2 c.args.self.now.e_phentsize) (little_bytes 2 c.args.self.now.e_phnum) (little_bytes 2 c.args.self.now.e_shentsize) (little_bytes 2 c.args.self.now.e_shnum) (little_bytes 2 c.args.self.now.e_shstrndx),
      c.in_ok-extend_from_slice.ensures.items,
      c.in_ok-put_u16.ensures,
      c.in_ok-put_u16-2.ensures,
      c.in_ok-put_u32.ensures,
      c.in_ok-put_u64.ensures,
      c.in_ok-put_u64-2.ensures,
      c.in_ok-put_u64-3.ensures,
      c.in_ok-put_u32-2.ensures,
      c.in_ok-put_u16-3.ensures,
      c.in_ok-put_u16-4.ensures,
      c.in_ok-put_u16-5.ensures,
      c.in_ok-put_u16-6.ensures,
      c.in_ok-put_u16-7.ensures,
      c.in_ok-put_u16-8.ensures,
    )
