use Rattle.elf_file.proofs.Tables.{Kept}
use Rattle.elf_file.proofs.reader.headers_to_load.Given as goal

abbrev pub invariant-loop : goal.invariant-loop
invariant-loop l = Kept l.count l.counter l.table l.rest l.headers.items
