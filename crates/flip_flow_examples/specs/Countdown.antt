-- A whole program with a loop and a call: a counter goes from 3 down to 0, by a function that takes one away, and its values are summed
-- up; the sum, 6, is the status.
use Rattle.std.specs.Prelude.{ℕ, pos, negsuc, List, [], ◌∷◌, ◌++◌}
use Rattle.rv_inst.specs.declared.instruction.Form.{Form}
use Rattle.rv_inst.specs.declared.instruction.Form.TheVariants.{ADDI, ADD, JAL}
use Rattle.rv_inst.specs.Window.{IsWindowPoint}
use Rattle.rv_model.specs.Text.{text_base, WordsOf}
use Rattle.rv_model.specs.Start.{program_image}
use Rattle.rv_flips.specs.Survives.{IsListed, Survives}
use Rattle.flip_frames.specs.Fetching.{Triple}
use Rattle.flip_versions.specs.Operations.{operation_words}
use Rattle.flip_guards.specs.Sources.{Upper, Small}
use Rattle.flip_guards.specs.Fetching.{in_slots, constant}
use Rattle.flip_texts.specs.Texts.{start_code}
use Rattle.flip_copies.specs.Copies.{Copy, copies_words}
use Rattle.flip_copies.specs.Edges.{PhiInput, edge_words}
use Rattle.flip_calls.specs.Calls.{call_words, entry_words, return_words, after_words}
use Rattle.flip_branches.specs.Branches.{branch_words}
use Rattle.flip_io.specs.Ending.{end_words}
use Rattle.flip_flow_examples.specs.Slots.{slots_from}

-- the slots of main's frame: the counter
abbrev pub counter : Triple
counter = slots_from 0

-- the sum
abbrev pub summed : Triple
summed = slots_from 3

-- the counter less one
abbrev pub lessened : Triple
lessened = slots_from 6

-- the sum with the counter added
abbrev pub added : Triple
added = slots_from 9

-- the values at the begin: the counter is number 0, the sum number 1
abbrev pub first_values : List Copy
first_values =
    record { source = constant (Small (pos 3) ∷ []); goal = counter; id = 0 } ∷
    record { source = constant (Small (pos 0) ∷ []); goal = summed; id = 1 } ∷ []

-- the function's frame has eight slots: the return address, the result, the argument. The counter is the argument
abbrev pub arguments : List Copy
arguments = record { source = in_slots (slots_from 8); goal = slots_from 4; id = 0 } ∷ []

-- its result goes to slot 6 of main's frame
abbrev pub results : List Copy
results = record { source = in_slots (slots_from 1); goal = slots_from 14; id = 0 } ∷ []

-- the edge back to the begin of the loop
abbrev pub again : List PhiInput
again =
    record { input = in_slots lessened; cell = slots_from 12; place = counter; id = 0 } ∷
    record { input = in_slots added; cell = slots_from 15; place = summed; id = 1 } ∷ []

-- the loop: the counter is added to the sum, the function is called, its result is taken, and where it is 0 the loop ends
abbrev pub loop_code : List Form
loop_code =
    operation_words (ADD 5 5 6 ∷ []) summed counter added
    ++ (call_words 8 arguments (pos 488)
    ++ (after_words results 8
    ++ (branch_words (in_slots lessened) (pos 300) (pos 4)
    ++ (edge_words again ++ JAL 0 (negsuc 635) ∷ []))))

-- the end, with the sum as status
abbrev pub exit_code : List Form
exit_code = end_words (in_slots added)

-- the function
abbrev pub function_code : List Form
function_code = entry_words 0 ++ (operation_words (ADDI 5 5 (negsuc 0) ∷ []) (slots_from 4) (slots_from 4) (slots_from 1) ++ return_words 0)

-- main's frame begins 4096 bytes after the begin of the data
abbrev pub countdown_code : List Form
countdown_code = start_code (Upper (pos 65537) ∷ []) ++ (copies_words first_values ++ (loop_code ++ (exit_code ++ function_code)))

-- its words
abbrev pub countdown_words : List ℕ
countdown_words =
    0x10001137 ∷ 0x100011b7 ∷ 0x10001237 ∷ 0x00300293 ∷ 0x00310463 ∷ 0x00020113 ∷ 0x00513023 ∷ 0x00300293 ∷
    0x00310463 ∷ 0x00020113 ∷ 0x00513423 ∷ 0x00300293 ∷ 0x00310463 ∷ 0x00020113 ∷ 0x00513823 ∷ 0x00000293 ∷
    0x00310463 ∷ 0x00020113 ∷ 0x00513c23 ∷ 0x00000293 ∷ 0x00310463 ∷ 0x00020113 ∷ 0x02513023 ∷ 0x00000293 ∷
    0x00310463 ∷ 0x00020113 ∷ 0x02513423 ∷ 0x00310463 ∷ 0x00020113 ∷ 0x01813283 ∷ 0x00310463 ∷ 0x00020113 ∷
    0x00013303 ∷ 0x006282b3 ∷ 0x00310463 ∷ 0x00020113 ∷ 0x04513423 ∷ 0x00310463 ∷ 0x00020113 ∷ 0x02013283 ∷
    0x00310463 ∷ 0x00020113 ∷ 0x00813303 ∷ 0x006282b3 ∷ 0x00310463 ∷ 0x00020113 ∷ 0x04513823 ∷ 0x00310463 ∷
    0x00020113 ∷ 0x02813283 ∷ 0x00310463 ∷ 0x00020113 ∷ 0x01013303 ∷ 0x006282b3 ∷ 0x00310463 ∷ 0x00020113 ∷
    0x04513c23 ∷ 0xfc010113 ∷ 0xfc018193 ∷ 0xfc020213 ∷ 0x00310463 ∷ 0x00020113 ∷ 0x04013283 ∷ 0x00310463 ∷
    0x00020113 ∷ 0x02513023 ∷ 0x00310463 ∷ 0x00020113 ∷ 0x04813283 ∷ 0x00310463 ∷ 0x00020113 ∷ 0x02513423 ∷
    0x00310463 ∷ 0x00020113 ∷ 0x05013283 ∷ 0x00310463 ∷ 0x00020113 ∷ 0x02513823 ∷ 0x1e8000ef ∷ 0x00310463 ∷
    0x00020113 ∷ 0x00813283 ∷ 0x00310463 ∷ 0x00020113 ∷ 0x06513823 ∷ 0x00310463 ∷ 0x00020113 ∷ 0x01013283 ∷
    0x00310463 ∷ 0x00020113 ∷ 0x06513c23 ∷ 0x00310463 ∷ 0x00020113 ∷ 0x01813283 ∷ 0x00310463 ∷ 0x00020113 ∷
    0x08513023 ∷ 0x04010113 ∷ 0x04018193 ∷ 0x04020213 ∷ 0x00310463 ∷ 0x00020113 ∷ 0x04013383 ∷ 0x00310463 ∷
    0x00020113 ∷ 0x03813303 ∷ 0x00310463 ∷ 0x00020113 ∷ 0x03013283 ∷ 0x00628463 ∷ 0x00038293 ∷ 0x00029463 ∷
    0x12c0006f ∷ 0x0040006f ∷ 0x00310463 ∷ 0x00020113 ∷ 0x03013283 ∷ 0x00310463 ∷ 0x00020113 ∷ 0x06513023 ∷
    0x00310463 ∷ 0x00020113 ∷ 0x03813283 ∷ 0x00310463 ∷ 0x00020113 ∷ 0x06513423 ∷ 0x00310463 ∷ 0x00020113 ∷
    0x04013283 ∷ 0x00310463 ∷ 0x00020113 ∷ 0x06513823 ∷ 0x00310463 ∷ 0x00020113 ∷ 0x04813283 ∷ 0x00310463 ∷
    0x00020113 ∷ 0x06513c23 ∷ 0x00310463 ∷ 0x00020113 ∷ 0x05013283 ∷ 0x00310463 ∷ 0x00020113 ∷ 0x08513023 ∷
    0x00310463 ∷ 0x00020113 ∷ 0x05813283 ∷ 0x00310463 ∷ 0x00020113 ∷ 0x08513423 ∷ 0x00310463 ∷ 0x00020113 ∷
    0x06013283 ∷ 0x00310463 ∷ 0x00020113 ∷ 0x00513023 ∷ 0x00310463 ∷ 0x00020113 ∷ 0x06813283 ∷ 0x00310463 ∷
    0x00020113 ∷ 0x00513423 ∷ 0x00310463 ∷ 0x00020113 ∷ 0x07013283 ∷ 0x00310463 ∷ 0x00020113 ∷ 0x00513823 ∷
    0x00310463 ∷ 0x00020113 ∷ 0x07813283 ∷ 0x00310463 ∷ 0x00020113 ∷ 0x00513c23 ∷ 0x00310463 ∷ 0x00020113 ∷
    0x08013283 ∷ 0x00310463 ∷ 0x00020113 ∷ 0x02513023 ∷ 0x00310463 ∷ 0x00020113 ∷ 0x08813283 ∷ 0x00310463 ∷
    0x00020113 ∷ 0x02513423 ∷ 0xd85ff06f ∷ 0x00310463 ∷ 0x00020113 ∷ 0x05813383 ∷ 0x00310463 ∷ 0x00020113 ∷
    0x05013303 ∷ 0x00310463 ∷ 0x00020113 ∷ 0x04813503 ∷ 0x00650463 ∷ 0x00038513 ∷ 0x05d00893 ∷ 0x00000073 ∷
    0x00310463 ∷ 0x00020113 ∷ 0x00113023 ∷ 0x00310463 ∷ 0x00020113 ∷ 0x02013283 ∷ 0x00310463 ∷ 0x00020113 ∷
    0x02013303 ∷ 0xfff28293 ∷ 0x00310463 ∷ 0x00020113 ∷ 0x00513423 ∷ 0x00310463 ∷ 0x00020113 ∷ 0x02813283 ∷
    0x00310463 ∷ 0x00020113 ∷ 0x02813303 ∷ 0xfff28293 ∷ 0x00310463 ∷ 0x00020113 ∷ 0x00513823 ∷ 0x00310463 ∷
    0x00020113 ∷ 0x03013283 ∷ 0x00310463 ∷ 0x00020113 ∷ 0x03013303 ∷ 0xfff28293 ∷ 0x00310463 ∷ 0x00020113 ∷
    0x00513c23 ∷ 0x00310463 ∷ 0x00020113 ∷ 0x00013083 ∷ 0x00008067 ∷ []

-- the words are those of the instructions; and the program survives every flip outside a list that has all window points of its text,
-- on every input, within 1,000 instructions
pub record CountdownHolds : Type 0 where
  pub words : WordsOf countdown_words countdown_code
  pub survives : (input : List ℕ) (points : List (ℕ × ℕ)) → ((p r : ℕ) → IsWindowPoint countdown_words text_base p r → IsListed points p r)
      → Survives (program_image countdown_words [] 4240) points input [] 6 558
