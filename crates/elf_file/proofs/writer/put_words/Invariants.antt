use Rattle.std.proofs.Common.{◌≡◌, ◌++◌, take}
use Rattle.elf_file.specs.Layout.{text_bytes}
use Rattle.elf_file.proofs.writer.put_words.Given as goal

abbrev pub invariant-loop-word : goal.invariant-loop-word
invariant-loop-word l = l.file.items ≡ l.initial.file.items ++ text_bytes (take l.word-index l.words)
