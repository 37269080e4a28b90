-- A text of 42 words: an addition in three versions, of which the last one goes to a far slot, and then the fetch of one of its operands.
use Rattle.std.specs.Prelude.{ℕ, ◌+◌, ◌*◌, List, [], ◌∷◌, ◌++◌, Some}
use Rattle.rv_inst.specs.declared.instruction.Form.{Form}
use Rattle.rv_inst.specs.declared.instruction.Form.TheVariants.{ADD}
use Rattle.rv_model.specs.Text.{text_base, WordsOf}
use Rattle.rv_flips.specs.Cells.{One, Two, Three, Cell, Free, Has}
use Rattle.rv_flips.specs.Assertion.{AnyByte, Assertion, with_register}
use Rattle.rv_flips.specs.Moves.{Moves}
use Rattle.flip_words.specs.Placed.{WindowPoints, Excepted, IsPlaced}
use Rattle.flip_frames.specs.Views.{Stage, at_address}
use Rattle.flip_frames.specs.Fetching.{Triple, fetch_slots, fetched}
use Rattle.flip_versions.specs.Operations.{resting, defined, operation_words}

-- the slots of the operands and of the sum
abbrev pub first_operand : Triple
first_operand = record { one = 0; two = 1; three = 2 }

abbrev pub second_operand : Triple
second_operand = record { one = 3; two = 4; three = 5 }

abbrev pub sum_slots : Triple
sum_slots = record { one = 6; two = 7; three = 300 }

-- the instructions, and their words
abbrev pub addition_code : List Form
addition_code = operation_words (ADD 5 5 6 ∷ []) first_operand second_operand sum_slots ++ fetch_slots first_operand

abbrev pub addition_words : List ℕ
addition_words =
    0x00310463 ∷ 0x00020113 ∷ 0x00013283 ∷ 0x00310463 ∷ 0x00020113 ∷ 0x01813303 ∷ 0x006282b3 ∷ 0x00310463 ∷
    0x00020113 ∷ 0x02513823 ∷ 0x00310463 ∷ 0x00020113 ∷ 0x00813283 ∷ 0x00310463 ∷ 0x00020113 ∷ 0x02013303 ∷
    0x006282b3 ∷ 0x00310463 ∷ 0x00020113 ∷ 0x02513c23 ∷ 0x00310463 ∷ 0x00020113 ∷ 0x01013283 ∷ 0x00310463 ∷
    0x00020113 ∷ 0x02813303 ∷ 0x006282b3 ∷ 0x00001e37 ∷ 0x002e0e33 ∷ 0x00001eb7 ∷ 0x003e8eb3 ∷ 0x01de0663 ∷
    0x00001e37 ∷ 0x004e0e33 ∷ 0x965e3023 ∷ 0x00310463 ∷ 0x00020113 ∷ 0x00013283 ∷ 0x00813303 ∷ 0x01013383 ∷
    0x00628463 ∷ 0x00038293 ∷ []

-- three versions of 7 and of 8 lie at the begin of the frame, which is at word 10 of the data; nothing else is known
abbrev pub operand_cells : ℕ → Cell
operand_cells =
    with_register (with_register (with_register (with_register (with_register (with_register (λ k. Free)
    10 (Has One 7)) 11 (Has Two 7)) 12 (Has Three 7)) 13 (Has One 8)) 14 (Has Two 8)) 15 (Has Three 8)

abbrev pub addition_stage : Stage
addition_stage = record {
  base = 10;
  places = λ r. Free;
  slots = operand_cells;
  bytes = λ o. AnyByte;
  size = 4096;
  input = [];
  out = [];
}

-- what is known at the begin of the text, and after it: the sum's slots hold 15, and x5 has 7 for sure
abbrev pub before_addition : Assertion
before_addition = at_address (resting addition_stage One) text_base

abbrev pub after_addition : Assertion
after_addition = fetched (resting (defined addition_stage sum_slots (Some 15)) One) 7 (text_base + 4 * 42)

-- the words are those of the instructions, they have their place in the text, and they do what they shall, whatever flip outside the
-- text's window points comes
pub record AdditionHolds : Type 0 where
  pub words : WordsOf addition_words addition_code
  pub placed : IsPlaced addition_words text_base addition_code
  pub moves : Moves addition_words (Excepted WindowPoints addition_words) before_addition 42 after_addition
