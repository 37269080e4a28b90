-- A byte is put out: the lowest byte of a value that is fetched.
use Rattle.std.specs.Prelude.{ℕ, ◌%◌, pos, List, [], ◌∷◌, ◌++◌, Some}
use Rattle.rv_inst.specs.declared.instruction.Form.{Form}
use Rattle.rv_inst.specs.declared.instruction.Form.TheVariants.{ADDI, SB, ECALL}
use Rattle.rv_flips.specs.Cells.{One}
use Rattle.flip_frames.specs.Views.{Stage, Runs}
use Rattle.flip_versions.specs.Operations.{resting}
use Rattle.flip_guards.specs.Fetching.{Operand, IsGiven, fetch_operand}
use Rattle.flip_io.specs.ByteCell.{cell_address, MayCall, cell_used}

-- the value is fetched into x5, its lowest byte comes into the byte cell, and the call that writes puts it out
abbrev pub put_words : Operand → List Form
put_words x =
    fetch_operand x ++ cell_address 6 ∷ SB 6 5 (pos 0) ∷ ADDI 10 0 (pos 1) ∷ cell_address 11 ∷ ADDI 12 0 (pos 1) ∷ ADDI 17 0 (pos 64) ∷ ECALL ∷ []

-- the stage after that
abbrev pub with_output : Stage → ℕ → Stage
with_output g b = record (cell_used g) { out = g.out ++ b ∷ [] }

-- that is what the words do, wherever they stand
abbrev pub BytesAreOutput : Type 0
BytesAreOutput = (words : List ℕ) (g : Stage) (x : Operand) (v : ℕ) → IsGiven g x (Some v) → MayCall g
    → Runs words (put_words x) (resting g One) (resting (with_output g (v % 256)) One)
