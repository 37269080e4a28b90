-- A whole text: a constant is stored in a block of memory and loaded again, goes out, a byte is read, one of both is chosen, and the
-- program ends with it.
use Rattle.std.specs.Prelude.{ℕ, pos, negsuc, List, [], ◌∷◌, ◌++◌}
use Rattle.rv_inst.specs.declared.instruction.Form.{Form}
use Rattle.rv_inst.specs.declared.instruction.Form.TheVariants.{ADDI}
use Rattle.rv_inst.specs.Window.{IsWindowPoint}
use Rattle.rv_model.specs.Text.{text_base, WordsOf}
use Rattle.rv_model.specs.Start.{program_image}
use Rattle.rv_flips.specs.Assertion.{AreBytes}
use Rattle.rv_flips.specs.Survives.{IsListed, Survives}
use Rattle.flip_frames.specs.Fetching.{Triple}
use Rattle.flip_versions.specs.Operations.{constant_words}
use Rattle.flip_guards.specs.Fetching.{in_slots, constant}
use Rattle.flip_guards.specs.Sources.{Part, Upper, Small, Plus, PlusWord, Shifted}
use Rattle.flip_blocks.specs.Blocks.{load_words, store_words}
use Rattle.flip_blocks.specs.Sizes.{OneByte, FourBytes}
use Rattle.flip_io.specs.Ending.{end_words}
use Rattle.flip_io.specs.Input.{get_words}
use Rattle.flip_io.specs.Output.{put_words}
use Rattle.flip_select.specs.Select.{select_words}
use Rattle.flip_texts.specs.Texts.{start_code}

-- the frame begins at word 4 of the data
abbrev pub frame_parts : List Part
frame_parts = Upper (pos 65536) ∷ Plus (pos 32) ∷ []

-- the block of memory is the two words before it
abbrev pub block_parts : List Part
block_parts = Upper (pos 65536) ∷ Plus (pos 16) ∷ []

-- 65, by three words
abbrev pub letter_parts : List Part
letter_parts = Small (pos 4) ∷ Shifted (pos 4) ∷ PlusWord (pos 1) ∷ []

-- the slots of a mask of ones
abbrev pub mask_slots : Triple
mask_slots = record { one = 0; two = 1; three = 2 }

-- of what is loaded
abbrev pub loaded_slots : Triple
loaded_slots = record { one = 3; two = 4; three = 5 }

-- of what is read
abbrev pub read_slots : Triple
read_slots = record { one = 6; two = 7; three = 8 }

-- and of what is chosen, the last of which is far
abbrev pub chosen_slots : Triple
chosen_slots = record { one = 9; two = 10; three = 300 }

-- between the start and the end
abbrev pub middle_code : List Form
middle_code =
    store_words FourBytes (constant letter_parts) (constant block_parts)
    ++ (load_words OneByte (constant block_parts) loaded_slots
    ++ (put_words (in_slots loaded_slots)
    ++ (get_words read_slots
    ++ (constant_words (ADDI 5 0 (negsuc 0) ∷ []) mask_slots ++ select_words mask_slots loaded_slots read_slots chosen_slots))))

-- the whole text
abbrev pub text_code : List Form
text_code = start_code frame_parts ++ (middle_code ++ end_words (in_slots chosen_slots))

-- its words
abbrev pub text_words : List ℕ
text_words =
    0x10000137 ∷ 0x02010113 ∷ 0x100001b7 ∷ 0x02018193 ∷ 0x10000237 ∷ 0x02020213 ∷ 0x00400393 ∷ 0x00439393 ∷
    0x0013839b ∷ 0x00400313 ∷ 0x00431313 ∷ 0x0013031b ∷ 0x00400293 ∷ 0x00429293 ∷ 0x0012829b ∷ 0x10000fb7 ∷
    0x010f8f93 ∷ 0x10000f37 ∷ 0x010f0f13 ∷ 0x10000e37 ∷ 0x010e0e13 ∷ 0x00628463 ∷ 0x00038293 ∷ 0x01ee0463 ∷
    0x000f8e13 ∷ 0x005e2023 ∷ 0x100003b7 ∷ 0x01038393 ∷ 0x10000337 ∷ 0x01030313 ∷ 0x100002b7 ∷ 0x01028293 ∷
    0x00628463 ∷ 0x00038293 ∷ 0x00028303 ∷ 0x00028383 ∷ 0x00028f03 ∷ 0x00310463 ∷ 0x00020113 ∷ 0x00613c23 ∷
    0x00310463 ∷ 0x00020113 ∷ 0x02713023 ∷ 0x00310463 ∷ 0x00020113 ∷ 0x03e13423 ∷ 0x00310463 ∷ 0x00020113 ∷
    0x02813383 ∷ 0x00310463 ∷ 0x00020113 ∷ 0x02013303 ∷ 0x00310463 ∷ 0x00020113 ∷ 0x01813283 ∷ 0x00628463 ∷
    0x00038293 ∷ 0x10000337 ∷ 0x00530023 ∷ 0x00100513 ∷ 0x100005b7 ∷ 0x00100613 ∷ 0x04000893 ∷ 0x00000073 ∷
    0x0ff00393 ∷ 0x10000337 ∷ 0x00730023 ∷ 0x00000513 ∷ 0x100005b7 ∷ 0x00100613 ∷ 0x03f00893 ∷ 0x00000073 ∷
    0x10000337 ∷ 0x00a300a3 ∷ 0x10000e37 ∷ 0x000e5283 ∷ 0xf0028293 ∷ 0x00310463 ∷ 0x00020113 ∷ 0x02513823 ∷
    0x10000e37 ∷ 0x000e5283 ∷ 0xf0028293 ∷ 0x00310463 ∷ 0x00020113 ∷ 0x02513c23 ∷ 0x10000e37 ∷ 0x000e5283 ∷
    0xf0028293 ∷ 0x00310463 ∷ 0x00020113 ∷ 0x04513023 ∷ 0xfff00293 ∷ 0x00310463 ∷ 0x00020113 ∷ 0x00513023 ∷
    0xfff00293 ∷ 0x00310463 ∷ 0x00020113 ∷ 0x00513423 ∷ 0xfff00293 ∷ 0x00310463 ∷ 0x00020113 ∷ 0x00513823 ∷
    0x00310463 ∷ 0x00020113 ∷ 0x00013283 ∷ 0x00310463 ∷ 0x00020113 ∷ 0x01813303 ∷ 0x00310463 ∷ 0x00020113 ∷
    0x03013383 ∷ 0x00537333 ∷ 0xfff2c293 ∷ 0x0053f3b3 ∷ 0x007362b3 ∷ 0x00310463 ∷ 0x00020113 ∷ 0x04513423 ∷
    0x00310463 ∷ 0x00020113 ∷ 0x00813283 ∷ 0x00310463 ∷ 0x00020113 ∷ 0x02013303 ∷ 0x00310463 ∷ 0x00020113 ∷
    0x03813383 ∷ 0x00537333 ∷ 0xfff2c293 ∷ 0x0053f3b3 ∷ 0x007362b3 ∷ 0x00310463 ∷ 0x00020113 ∷ 0x04513823 ∷
    0x00310463 ∷ 0x00020113 ∷ 0x01013283 ∷ 0x00310463 ∷ 0x00020113 ∷ 0x02813303 ∷ 0x00310463 ∷ 0x00020113 ∷
    0x04013383 ∷ 0x00537333 ∷ 0xfff2c293 ∷ 0x0053f3b3 ∷ 0x007362b3 ∷ 0x00001e37 ∷ 0x002e0e33 ∷ 0x00001eb7 ∷
    0x003e8eb3 ∷ 0x01de0663 ∷ 0x00001e37 ∷ 0x004e0e33 ∷ 0x965e3023 ∷ 0x00001e37 ∷ 0x002e0e33 ∷ 0x00001eb7 ∷
    0x003e8eb3 ∷ 0x01de0663 ∷ 0x00001e37 ∷ 0x004e0e33 ∷ 0x960e3383 ∷ 0x00310463 ∷ 0x00020113 ∷ 0x05013303 ∷
    0x00310463 ∷ 0x00020113 ∷ 0x04813503 ∷ 0x00650463 ∷ 0x00038513 ∷ 0x05d00893 ∷ 0x00000073 ∷ []

-- the words are those of the instructions; on every input of bytes the text puts out 65 and ends with 65, also when one bit of one
-- register is flipped outside a list that has all of its window points
pub record TextHolds : Type 0 where
  pub are_words : WordsOf text_words text_code
  pub survives : (input : List ℕ) (points : List (ℕ × ℕ)) → AreBytes input → ((p r : ℕ) → IsWindowPoint text_words text_base p r → IsListed points p r)
      → Survives (program_image text_words [] 4096) points input (65 ∷ []) 65 352
