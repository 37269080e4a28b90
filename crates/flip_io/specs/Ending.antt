-- A program ends with a status that is computed: the lowest byte of a value that is fetched into x10.
use Rattle.std.specs.Prelude.{ℕ, ◌%◌, pos, List, [], ◌∷◌, ◌++◌, length, Some}
use Rattle.rv_inst.specs.declared.instruction.Form.{Form}
use Rattle.rv_inst.specs.declared.instruction.Form.TheVariants.{ADDI, ECALL}
use Rattle.rv_flips.specs.Cells.{One}
use Rattle.rv_flips.specs.Moves.{Finishes}
use Rattle.flip_words.specs.Placed.{WindowPoints, Excepted, IsPlaced}
use Rattle.flip_frames.specs.Views.{Stage, IsView, at_address}
use Rattle.flip_versions.specs.Operations.{resting}
use Rattle.flip_guards.specs.Fetching.{Operand, IsGiven, bring_three, check_words}

-- the value is fetched into x10 itself, since a copy of a checked value is no use of it
abbrev pub end_words : Operand → List Form
end_words x = bring_three 10 6 7 x ++ (check_words 10 6 7 ++ ADDI 17 0 (pos 93) ∷ ECALL ∷ [])

-- then the program ends with the output so far, after at most as many instructions as there are words
abbrev pub ValuesEndPrograms : Type 0
ValuesEndPrograms = (words : List ℕ) (g : Stage) (x : Operand) (v p : ℕ) → IsView (resting g One) → IsGiven g x (Some v)
    → IsPlaced words p (end_words x)
    → Finishes words (Excepted WindowPoints words) (at_address (resting g One) p) (length (end_words x)) g.out (v % 256)
