-- A whole program: a constant in three versions, a copy of it, an operation on the copy and on a value that isn't known, and the end.
use Rattle.std.specs.Prelude.{ℕ, pos, List, [], ◌∷◌, ◌++◌}
use Rattle.rv_inst.specs.declared.instruction.Form.{Form}
use Rattle.rv_inst.specs.declared.instruction.Form.TheVariants.{ADD, ADDI}
use Rattle.rv_inst.specs.Window.{IsWindowPoint}
use Rattle.rv_model.specs.Text.{text_base, WordsOf}
use Rattle.rv_model.specs.Start.{program_image}
use Rattle.rv_flips.specs.Survives.{IsListed, Survives}
use Rattle.flip_frames.specs.Fetching.{Triple}
use Rattle.flip_versions.specs.Operations.{operation_words, copy_words, constant_words}
use Rattle.flip_programs.specs.Programs.{program_code}

-- the slots of the constant, of its copy, of a value that isn't known, and of the result
abbrev pub constant_slots : Triple
constant_slots = record { one = 0; two = 1; three = 2 }

abbrev pub copy_slots : Triple
copy_slots = record { one = 3; two = 4; three = 5 }

abbrev pub unknown_slots : Triple
unknown_slots = record { one = 6; two = 7; three = 8 }

abbrev pub result_slots : Triple
result_slots = record { one = 9; two = 10; three = 11 }

-- the sequence between the start and the end
abbrev pub middle_code : List Form
middle_code =
    constant_words (ADDI 5 0 (pos 7) ∷ []) constant_slots
    ++ (copy_words constant_slots copy_slots ++ operation_words (ADD 5 5 6 ∷ []) copy_slots unknown_slots result_slots)

abbrev pub program_words : List ℕ
program_words =
    0x10000137 ∷ 0x100001b7 ∷ 0x10000237 ∷ 0x00700293 ∷ 0x00310463 ∷ 0x00020113 ∷ 0x00513023 ∷ 0x00700293 ∷
    0x00310463 ∷ 0x00020113 ∷ 0x00513423 ∷ 0x00700293 ∷ 0x00310463 ∷ 0x00020113 ∷ 0x00513823 ∷ 0x00310463 ∷
    0x00020113 ∷ 0x00013283 ∷ 0x00310463 ∷ 0x00020113 ∷ 0x00513c23 ∷ 0x00310463 ∷ 0x00020113 ∷ 0x00813283 ∷
    0x00310463 ∷ 0x00020113 ∷ 0x02513023 ∷ 0x00310463 ∷ 0x00020113 ∷ 0x01013283 ∷ 0x00310463 ∷ 0x00020113 ∷
    0x02513423 ∷ 0x00310463 ∷ 0x00020113 ∷ 0x01813283 ∷ 0x00310463 ∷ 0x00020113 ∷ 0x03013303 ∷ 0x006282b3 ∷
    0x00310463 ∷ 0x00020113 ∷ 0x04513423 ∷ 0x00310463 ∷ 0x00020113 ∷ 0x02013283 ∷ 0x00310463 ∷ 0x00020113 ∷
    0x03813303 ∷ 0x006282b3 ∷ 0x00310463 ∷ 0x00020113 ∷ 0x04513823 ∷ 0x00310463 ∷ 0x00020113 ∷ 0x02813283 ∷
    0x00310463 ∷ 0x00020113 ∷ 0x04013303 ∷ 0x006282b3 ∷ 0x00310463 ∷ 0x00020113 ∷ 0x04513c23 ∷ 0x00700513 ∷
    0x05d00893 ∷ 0x00000073 ∷ []

-- the words are those of a program with this sequence and the status 7, and it survives every flip outside a list that has all window
-- points of its text, on every input
pub record ProgramHolds : Type 0 where
  pub words : WordsOf program_words (program_code (pos 65536) middle_code (pos 7))
  pub survives : (input : List ℕ) (points : List (ℕ × ℕ)) → ((p r : ℕ) → IsWindowPoint program_words text_base p r → IsListed points p r)
      → Survives (program_image program_words [] 96) points input [] 7 134
