use Rattle.elf_file.proofs.Backward.{reads_back, text_reads_back}
use Rattle.elf_file.proofs.written_reads_back.Goals as goal

pub returns : goal.returns
returns c = record { image = reads_back; text = text_reads_back }
