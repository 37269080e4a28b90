-- A whole program on whose last edge two phis swap their values: 7 and 8 lie in their slots, and each is the other's input.
use Rattle.std.specs.Prelude.{ℕ, pos, ◌==◌, List, [], ◌∷◌, ◌++◌, Option, Some, if◌then◌else◌}
use Rattle.rv_inst.specs.declared.instruction.Form.{Form}
use Rattle.rv_inst.specs.Window.{IsWindowPoint}
use Rattle.rv_model.specs.Text.{text_base, WordsOf}
use Rattle.rv_model.specs.Start.{program_image}
use Rattle.rv_flips.specs.Survives.{IsListed, Survives}
use Rattle.flip_frames.specs.Views.{Stage}
use Rattle.flip_programs.specs.Programs.{program_code, start_stage}
use Rattle.flip_guards.specs.Sources.{Small}
use Rattle.flip_guards.specs.Fetching.{in_slots, constant}
use Rattle.flip_flow_examples.specs.Slots.{slots_from}
use Rattle.flip_copies.specs.Copies.{Copy, copies_words, copied, AreSet, Compatible}
use Rattle.flip_copies.specs.Edges.{PhiInput, from_cells, edge_words, entered}

-- the two values before the edge
abbrev pub constants : List Copy
constants =
    record { source = constant (Small (pos 7) ∷ []); goal = slots_from 0; id = 0 } ∷
    record { source = constant (Small (pos 8) ∷ []); goal = slots_from 3; id = 1 } ∷ []

-- the phis: each has the slots of the other as its input, and a cell of its own
abbrev pub swapping : List PhiInput
swapping =
    record { input = in_slots (slots_from 3); cell = slots_from 6; place = slots_from 0; id = 0 } ∷
    record { input = in_slots (slots_from 0); cell = slots_from 9; place = slots_from 3; id = 1 } ∷ []

-- the constants, and then the edge
abbrev pub swap_code : List Form
swap_code = copies_words constants ++ edge_words swapping

-- the words of the program
abbrev pub swap_words : List ℕ
swap_words =
    0x10000137 ∷ 0x100001b7 ∷ 0x10000237 ∷ 0x00700293 ∷ 0x00310463 ∷ 0x00020113 ∷ 0x00513023 ∷ 0x00700293 ∷
    0x00310463 ∷ 0x00020113 ∷ 0x00513423 ∷ 0x00700293 ∷ 0x00310463 ∷ 0x00020113 ∷ 0x00513823 ∷ 0x00800293 ∷
    0x00310463 ∷ 0x00020113 ∷ 0x00513c23 ∷ 0x00800293 ∷ 0x00310463 ∷ 0x00020113 ∷ 0x02513023 ∷ 0x00800293 ∷
    0x00310463 ∷ 0x00020113 ∷ 0x02513423 ∷ 0x00310463 ∷ 0x00020113 ∷ 0x01813283 ∷ 0x00310463 ∷ 0x00020113 ∷
    0x02513823 ∷ 0x00310463 ∷ 0x00020113 ∷ 0x02013283 ∷ 0x00310463 ∷ 0x00020113 ∷ 0x02513c23 ∷ 0x00310463 ∷
    0x00020113 ∷ 0x02813283 ∷ 0x00310463 ∷ 0x00020113 ∷ 0x04513023 ∷ 0x00310463 ∷ 0x00020113 ∷ 0x00013283 ∷
    0x00310463 ∷ 0x00020113 ∷ 0x04513423 ∷ 0x00310463 ∷ 0x00020113 ∷ 0x00813283 ∷ 0x00310463 ∷ 0x00020113 ∷
    0x04513823 ∷ 0x00310463 ∷ 0x00020113 ∷ 0x01013283 ∷ 0x00310463 ∷ 0x00020113 ∷ 0x04513c23 ∷ 0x00310463 ∷
    0x00020113 ∷ 0x03013283 ∷ 0x00310463 ∷ 0x00020113 ∷ 0x00513023 ∷ 0x00310463 ∷ 0x00020113 ∷ 0x03813283 ∷
    0x00310463 ∷ 0x00020113 ∷ 0x00513423 ∷ 0x00310463 ∷ 0x00020113 ∷ 0x04013283 ∷ 0x00310463 ∷ 0x00020113 ∷
    0x00513823 ∷ 0x00310463 ∷ 0x00020113 ∷ 0x04813283 ∷ 0x00310463 ∷ 0x00020113 ∷ 0x00513c23 ∷ 0x00310463 ∷
    0x00020113 ∷ 0x05013283 ∷ 0x00310463 ∷ 0x00020113 ∷ 0x02513023 ∷ 0x00310463 ∷ 0x00020113 ∷ 0x05813283 ∷
    0x00310463 ∷ 0x00020113 ∷ 0x02513423 ∷ 0x00000513 ∷ 0x05d00893 ∷ 0x00000073 ∷ []

-- the values before the edge, by their numbers
abbrev pub values_before : ℕ → Option ℕ
values_before id = if id == 0 then Some 7 else Some 8

-- the values after it
abbrev pub values_after : ℕ → Option ℕ
values_after id = if id == 0 then Some 8 else Some 7

-- the stage at the end
abbrev pub swapped : List ℕ → Stage
swapped input = entered (copied (start_stage 0 [] input 96) constants values_before) swapping values_after

-- the words are those of a program with this code and the status 0; the phis have each other's value in the end; and the program
-- survives every flip outside a list that has all window points of its text, on every input
pub record SwapHolds : Type 0 where
  pub words : WordsOf swap_words (program_code (pos 65536) swap_code (pos 0))
  pub phis : (input : List ℕ) → AreSet (swapped input) (from_cells swapping) values_after
  pub survives : (input : List ℕ) (points : List (ℕ × ℕ)) → ((p r : ℕ) → IsWindowPoint swap_words text_base p r → IsListed points p r)
      → Survives (program_image swap_words [] 96) points input [] 0 206

-- the same phis without cells, set one after another
abbrev pub one_by_one : List Copy
one_by_one =
    record { source = in_slots (slots_from 3); goal = slots_from 0; id = 0 } ∷
    record { source = in_slots (slots_from 0); goal = slots_from 3; id = 1 } ∷ []

-- these aren't compatible: the second would read what the first has written
abbrev pub OneByOneIsRefused : Type 0
OneByOneIsRefused = Compatible one_by_one → ⊥
