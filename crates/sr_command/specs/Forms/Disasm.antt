-- The form `disasm EXE`.
use Rattle.std.specs.Prelude.{◌≡◌, ℕ, ◌+◌, List, [], ◌∷◌, ◌++◌, codes, Option, Some, None, IsSome, if◌then◌else◌}
use Rattle.std.specs.List.{flat_map}
use Rattle.sr_base.specs.Files.{Files}
use Rattle.elf_file.specs.Image.{ImageSegment, ProgramImage, is_executable, words_of}
use Rattle.rv_inst.specs.declared.instruction.Form.{Form as Instruction}
use Rattle.rv_inst.specs.Word.{form_at}
use Rattle.rv_inst.specs.Assembly.{text_of}
use Rattle.sr_command.specs.Hexadecimal.{eight_digits}
use Rattle.sr_command.specs.Loads.{IsLoaded, RefusesLoad, LacksLoad}
use Rattle.sr_command.specs.Yield.{Yield}
use Rattle.sr_command.specs.Promise.{Promise}

-- the text of an instruction, or `word` where there is none
abbrev pub instruction_text : Option Instruction → List ℕ
instruction_text None = codes "word"
instruction_text (Some instruction) = text_of instruction

-- the line of a word: its address, the word, and its instruction
abbrev pub word_line : ℕ → ℕ → List ℕ
word_line address word = eight_digits address ++ (codes " " ++ (eight_digits word ++ (codes " " ++ (instruction_text (form_at word) ++ 10 ∷ []))))

-- the lines of words that stand one after another, starting at an address
abbrev pub word_lines : ℕ → List ℕ → List ℕ
word_lines address [] = []
word_lines address (word ∷ words) = word_line address word ++ word_lines (address + 4) words

-- the lines of a segment: those of the whole words that the file has of it, where it is executable
abbrev pub segment_lines : ImageSegment → List ℕ
segment_lines s = if is_executable s then word_lines s.base (words_of s.init) else []

-- the lines of the segments, in their order
abbrev pub disassembly : ProgramImage → List ℕ
disassembly image = flat_map segment_lines image.segments

-- the executable in a file has these lines
abbrev pub Disassembles : Option Files → List ℕ → Yield → Type 0
Disassembles files program given =
    (image : ProgramImage) × IsLoaded files program None image [] × (given ≡ record { image = None; text = disassembly image; line = [] })

-- the promise: the lines of the words of the executable
abbrev pub listing : List ℕ → Promise
listing program = record {
  gives = λ files given. Disassembles files program given;
  halts = λ files status given. ⊥;
  refuses = λ files why. RefusesLoad files program None why;
  lacks = λ files. LacksLoad files program None;
  output = None;
  can_be_done = λ files. IsSome files × ((given : Yield) × Disassembles files program given);
}
