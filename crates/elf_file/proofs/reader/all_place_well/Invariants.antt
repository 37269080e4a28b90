use Rattle.elf_file.proofs.Tables.{Placed}
use Rattle.elf_file.proofs.reader.all_place_well.Given as goal

abbrev pub invariant-loop : goal.invariant-loop
invariant-loop l = Placed l.size l.count l.counter l.table l.rest
