-- The frame moves: each copy of the stack pointer by a constant of its own.
use Rattle.std.specs.Prelude.{◌≡◌, ◌+◌, ◌*◌, ◌<◌, ◌≤◌, ◌-ℤ◌, ℕ, pos, List, [], ◌∷◌, ◌++◌, if◌then◌else◌}
use Rattle.rv_inst.specs.declared.instruction.Form.{Form}
use Rattle.rv_inst.specs.declared.instruction.Form.TheVariants.{LUI, ADDI, ADD, SUB}
use Rattle.rv_flips.specs.Cells.{One}
use Rattle.flip_frames.specs.Views.{Stage, Runs}
use Rattle.flip_frames.specs.Slots.{far_high, far_low, is_near}
use Rattle.flip_versions.specs.Operations.{resting}

-- the size of n slots comes into x5
abbrev pub size_words : ℕ → List Form
size_words n = LUI 5 (far_high n) ∷ ADDI 5 5 (far_low n) ∷ []

-- the copy in d goes n slots down
abbrev pub copy_down : ℕ → ℕ → List Form
copy_down d n = if is_near n then ADDI d d (pos 0 -ℤ pos (8 * n)) ∷ [] else size_words n ++ SUB d d 5 ∷ []

-- it goes n slots up
abbrev pub copy_up : ℕ → ℕ → List Form
copy_up d n = if is_near n then ADDI d d (pos (8 * n)) ∷ [] else size_words n ++ ADD d d 5 ∷ []

-- all three copies go down
abbrev pub frame_down : ℕ → List Form
frame_down n = copy_down 2 n ++ (copy_down 3 n ++ copy_down 4 n)

-- all three copies go up
abbrev pub frame_up : ℕ → List Form
frame_up n = copy_up 2 n ++ (copy_up 3 n ++ copy_up 4 n)

-- the stage with its frame at another word of the data
abbrev pub based_at : Stage → ℕ → Stage
based_at g base = record g { base = base }

-- the frame goes down by its size, small or large: of the data is known what was known
abbrev pub FramesGoDown : Type 0
FramesGoDown = (words : List ℕ) (g : Stage) (n base : ℕ) → n < 0x800_0000 → base + n ≡ g.base
    → Runs words (frame_down n) (resting g One) (resting (based_at g base) One)

-- and up, where the data reach so far
abbrev pub FramesGoUp : Type 0
FramesGoUp = (words : List ℕ) (g : Stage) (n base : ℕ) → n < 0x800_0000 → g.base + n ≡ base → 8 * base ≤ 0x4000_0000
    → Runs words (frame_up n) (resting g One) (resting (based_at g base) One)
