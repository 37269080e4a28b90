-- A byte is read without a branch: whether one came is the count that the call gives, and the value is computed of both.
use Rattle.std.specs.Prelude.{ℕ, ◌-◌, ◌<◌, ◌^◌, pos, negsuc, List, [], ◌∷◌, ◌++◌, drop, Some}
use Rattle.rv_inst.specs.declared.instruction.Form.{Form}
use Rattle.rv_inst.specs.declared.instruction.Form.TheVariants.{ADDI, SB, LHU, ECALL}
use Rattle.rv_flips.specs.Cells.{One}
use Rattle.rv_flips.specs.Assertion.{AreBytes}
use Rattle.flip_frames.specs.Views.{Stage, Runs}
use Rattle.flip_frames.specs.Fetching.{Triple}
use Rattle.flip_frames.specs.Slots.{any_store}
use Rattle.flip_versions.specs.Operations.{resting, AreSlots, defined}
use Rattle.flip_io.specs.ByteCell.{cell_address, MayCall, cell_used}

-- 255 comes into the byte cell, which the call leaves there at the end of the input; the count of the call comes into the next byte at
-- once, so that no copy of it is in a register
abbrev pub read_words : List Form
read_words =
    ADDI 7 0 (pos 255) ∷ cell_address 6 ∷ SB 6 7 (pos 0) ∷ ADDI 10 0 (pos 0) ∷ cell_address 11 ∷ ADDI 12 0 (pos 1) ∷ ADDI 17 0 (pos 63) ∷ ECALL
    ∷ cell_address 6 ∷ SB 6 10 (pos 1) ∷ []

-- a version of the value: the number of both bytes less 256
abbrev pub taken_words : List Form
taken_words = cell_address 28 ∷ LHU 5 28 (pos 0) ∷ ADDI 5 5 (negsuc 255) ∷ []

-- each version is loaded by words of its own
abbrev pub get_words : Triple → List Form
get_words d =
    read_words ++ ((taken_words ++ any_store 5 d.one) ++ ((taken_words ++ any_store 5 d.two) ++ (taken_words ++ any_store 5 d.three)))

-- the value: the first byte of the input, or -1 at its end
abbrev pub read_value : List ℕ → ℕ
read_value [] = 2 ^ 64 - 1
read_value (x ∷ xs) = x

-- the stage after a byte was read
abbrev pub with_input : Stage → Stage
with_input g = record (cell_used g) { input = drop 1 g.input }

-- then the slots of d hold three versions of the value
abbrev pub BytesAreInput : Type 0
BytesAreInput = (words : List ℕ) (g : Stage) (d : Triple) → AreSlots g d → MayCall g → 0 < g.base → AreBytes g.input
    → Runs words (get_words d) (resting g One) (resting (defined (with_input g) d (Some (read_value g.input))) One)
