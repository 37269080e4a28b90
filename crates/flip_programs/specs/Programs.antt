-- A whole program: the stack pointer is made in three copies, a sequence runs, and the program ends.
use Rattle.std.specs.Prelude.{◌≡◌, ℕ, ◌+◌, ◌*◌, ◌%◌, ◌<◌, ◌≤◌, ◌^◌, ℤ, List, [], ◌∷◌, ◌++◌, length, replicate, slice_index, All}
use Rattle.rv_inst.specs.declared.instruction.Form.{Form}
use Rattle.rv_inst.specs.declared.instruction.Form.TheVariants.{LUI}
use Rattle.rv_inst.specs.Window.{IsWindowPoint}
use Rattle.rv_model.specs.Operations.{bits64, upper_value}
use Rattle.rv_model.specs.Text.{text_base, data_base, WordsOf}
use Rattle.rv_model.specs.Start.{program_image}
use Rattle.rv_flips.specs.Cells.{One, Free}
use Rattle.rv_flips.specs.Assertion.{IsByte}
use Rattle.rv_flips.specs.Ending.{ending_words}
use Rattle.rv_flips.specs.Survives.{IsListed, Survives}
use Rattle.flip_words.specs.Words.{slot_address}
use Rattle.flip_frames.specs.Views.{Stage, View, Runs}
use Rattle.flip_versions.specs.Operations.{resting}

-- each copy of the stack pointer is made by a word of its own
abbrev pub start_words : ℤ → List Form
start_words high = LUI 2 high ∷ LUI 3 high ∷ LUI 4 high ∷ []

-- the stage at the start: the frame begins at a word of the data, each byte is that of the file or 0, and nothing else is known
abbrev pub start_stage : ℕ → List ℕ → List ℕ → ℕ → Stage
start_stage base init input extra = record {
  base = base;
  places = λ r. Free;
  slots = λ k. Free;
  bytes = λ o. IsByte (slice_index (init ++ replicate extra 0) o);
  size = length (init ++ replicate extra 0);
  input = input;
  out = [];
}

-- the instructions of a program that ends with a status after the code
abbrev pub program_code : ℤ → List Form → ℤ → List Form
program_code high code status = start_words high ++ (code ++ ending_words status)

-- the words and the data of a program: they are those of the instructions, they have room, and the upper part is the frame's address
pub record IsProgram (words init : List ℕ) (extra base : ℕ) (high : ℤ) (code : List Form) (status : ℤ) : Type 0 where
  pub are_words : WordsOf words (program_code high code status)
  pub short : text_base + 4 * length words ≤ data_base
  pub bytes : All (λ b. b < 2 ^ 8) init
  pub size : length (init ++ replicate extra 0) ≤ 0x4000_0000
  pub address : upper_value high ≡ slot_address base
  pub frame : 8 * base ≤ 0x4000_0000

-- a program whose code runs from the start to some view survives every flip outside a list that has all window points of its text
abbrev pub ProgramsSurvive : Type 0
ProgramsSurvive = (words init input : List ℕ) (extra base : ℕ) (high : ℤ) (code : List Form) (status : ℤ) (w : View) (points : List (ℕ × ℕ))
    → IsProgram words init extra base high code status
    → Runs words code (resting (start_stage base init input extra) One) w
    → ((p r : ℕ) → IsWindowPoint words text_base p r → IsListed points p r)
    → Survives (program_image words init extra) points input w.stage.out (bits64 status % 256) (2 * (length words + 1))
