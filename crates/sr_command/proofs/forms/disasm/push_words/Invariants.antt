use Rattle.std.proofs.Common.{◌≡◌, ◌≤◌, ◌+◌, ◌-◌, ◌++◌, length}
use Rattle.elf_file.specs.Image.{words_of}
use Rattle.sr_command.specs.Forms.Disasm.{word_lines}
use Rattle.sr_command.proofs.forms.disasm.push_words.Given as goal

-- the text so far, and the lines of the words that are left
abbrev pub invariant-loop-rest : goal.invariant-loop-rest
invariant-loop-rest l = record {
  within : length l.rest ≤ length l.bytes;
  lines : l.text.items ++ word_lines (l.base + (length l.bytes - length l.rest)) (words_of l.rest) ≡ l.initial.text.items ++ word_lines l.base (words_of l.bytes);
}

abbrev pub decreases-loop-rest : goal.decreases-loop-rest
decreases-loop-rest l = length l.rest
