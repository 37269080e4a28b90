-- The machine as it starts on an executable's image.
use Rattle.std.specs.Prelude.{◌+◌, ◌*◌, ◌∷◌, ℕ, ◌-◌, List, [], ◌++◌, length, replicate, map}
use Rattle.elf_file.specs.Image.{ImageSegment, ProgramImage}
use Rattle.rv_model.specs.Text.{text_base, data_base, bytes_of_words}
use Rattle.rv_model.specs.State.{LoadedSegment, MachineState}

-- a segment of memory holds its bytes of the file and then zeros
abbrev pub loaded_segment : ImageSegment → LoadedSegment
loaded_segment s = record { base = s.base; flags = s.flags; bytes = s.init ++ replicate (s.size - length s.init) 0 }

-- every register is 0, the pc is the image's entry, nothing is read and nothing is put out yet
unfoldable pub started : ProgramImage → List ℕ → MachineState
started image input =
    record { regs = replicate 32 0; pc = image.begin; segments = map loaded_segment image.segments; input = input; out = [] }

-- the image with these words and data, at the places that an executable has for them
abbrev pub program_image : List ℕ → List ℕ → ℕ → ProgramImage
program_image words init extra = record {
  begin = text_base;
  segments = record { base = text_base; size = 4 * length words; flags = 5; init = bytes_of_words words } ∷
      record { base = data_base; size = length init + extra; flags = 6; init = init } ∷ [];
}
