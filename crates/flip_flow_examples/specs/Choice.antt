-- A whole program with a switch of three cases: a number of twelve bits, one of 32 and one of 64. The value is the third one's.
use Rattle.std.specs.Prelude.{ℕ, pos, negsuc, List, [], ◌∷◌, ◌++◌}
use Rattle.rv_inst.specs.declared.instruction.Form.{Form}
use Rattle.rv_inst.specs.Window.{IsWindowPoint}
use Rattle.rv_model.specs.Text.{text_base, WordsOf}
use Rattle.rv_model.specs.Start.{program_image}
use Rattle.rv_flips.specs.Survives.{IsListed, Survives}
use Rattle.flip_guards.specs.Sources.{Part, Upper, Small, Plus, Shifted}
use Rattle.flip_guards.specs.Fetching.{in_slots, constant}
use Rattle.flip_io.specs.Ending.{end_words}
use Rattle.flip_texts.specs.Texts.{start_code}
use Rattle.flip_copies.specs.Copies.{Copy, copies_words}
use Rattle.flip_branches.specs.Switches.{Adding, Made, Case, switch_words}
use Rattle.flip_flow_examples.specs.Slots.{slots_from}

-- 2^40
abbrev pub large : List Part
large = Small (pos 1) ∷ Shifted (pos 40) ∷ []

-- 0x12345678
abbrev pub medium : List Part
medium = Upper (pos 0x12345) ∷ Plus (pos 0x678) ∷ []

-- the value that is switched on
abbrev pub chosen : List Copy
chosen = record { source = constant large; goal = slots_from 0; id = 0 } ∷ []

-- the cases: the first two go where the program ends with the status 1, the third one where it ends with 2
abbrev pub cases : List Case
cases =
    record { number = 5; taking = Adding (negsuc 4); hit = pos 184 } ∷
    record { number = 0x12345678; taking = Made medium; hit = pos 96 } ∷
    record { number = 0x100_0000_0000; taking = Made large; hit = pos 36 } ∷ []

-- the program: the value comes into slots, the switch, and two ends
abbrev pub choice_code : List Form
choice_code =
    start_code (Upper (pos 65536) ∷ [])
    ++ (copies_words chosen
    ++ (switch_words (in_slots (slots_from 0)) cases (pos 4)
    ++ (end_words (constant (Small (pos 1) ∷ [])) ++ end_words (constant (Small (pos 2) ∷ [])))))

-- its words
abbrev pub choice_words : List ℕ
choice_words =
    0x10000137 ∷ 0x100001b7 ∷ 0x10000237 ∷ 0x00100293 ∷ 0x02829293 ∷ 0x00310463 ∷ 0x00020113 ∷ 0x00513023 ∷
    0x00100293 ∷ 0x02829293 ∷ 0x00310463 ∷ 0x00020113 ∷ 0x00513423 ∷ 0x00100293 ∷ 0x02829293 ∷ 0x00310463 ∷
    0x00020113 ∷ 0x00513823 ∷ 0x00310463 ∷ 0x00020113 ∷ 0x01013383 ∷ 0x00310463 ∷ 0x00020113 ∷ 0x00813303 ∷
    0x00310463 ∷ 0x00020113 ∷ 0x00013283 ∷ 0xffb38393 ∷ 0xffb30313 ∷ 0xffb28293 ∷ 0x00628463 ∷ 0x00038293 ∷
    0x00029463 ∷ 0x0b80006f ∷ 0x00310463 ∷ 0x00020113 ∷ 0x01013383 ∷ 0x00310463 ∷ 0x00020113 ∷ 0x00813303 ∷
    0x00310463 ∷ 0x00020113 ∷ 0x00013283 ∷ 0x12345e37 ∷ 0x678e0e13 ∷ 0x41c383b3 ∷ 0x12345e37 ∷ 0x678e0e13 ∷
    0x41c30333 ∷ 0x12345e37 ∷ 0x678e0e13 ∷ 0x41c282b3 ∷ 0x00628463 ∷ 0x00038293 ∷ 0x00029463 ∷ 0x0600006f ∷
    0x00310463 ∷ 0x00020113 ∷ 0x01013383 ∷ 0x00310463 ∷ 0x00020113 ∷ 0x00813303 ∷ 0x00310463 ∷ 0x00020113 ∷
    0x00013283 ∷ 0x00100e13 ∷ 0x028e1e13 ∷ 0x41c383b3 ∷ 0x00100e13 ∷ 0x028e1e13 ∷ 0x41c30333 ∷ 0x00100e13 ∷
    0x028e1e13 ∷ 0x41c282b3 ∷ 0x00628463 ∷ 0x00038293 ∷ 0x00029463 ∷ 0x0240006f ∷ 0x0040006f ∷ 0x00100393 ∷
    0x00100313 ∷ 0x00100513 ∷ 0x00650463 ∷ 0x00038513 ∷ 0x05d00893 ∷ 0x00000073 ∷ 0x00200393 ∷ 0x00200313 ∷
    0x00200513 ∷ 0x00650463 ∷ 0x00038513 ∷ 0x05d00893 ∷ 0x00000073 ∷ []

-- the words are those of the instructions; and the program survives every flip outside a list that has all window points of its text,
-- on every input, within 100 instructions
pub record ChoiceHolds : Type 0 where
  pub words : WordsOf choice_words choice_code
  pub survives : (input : List ℕ) (points : List (ℕ × ℕ)) → ((p r : ℕ) → IsWindowPoint choice_words text_base p r → IsListed points p r)
      → Survives (program_image choice_words [] 24) points input [] 2 100
