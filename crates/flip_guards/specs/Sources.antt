-- Where the versions of an operand come from: slots of the frame, registers, or words that make a constant.
use Rattle.std.specs.Prelude.{◌≡◌, ℕ, ◌+◌, ◌*◌, ◌<◌, ℤ, pos, List, [], ◌∷◌, length, Option, Some, None}
use Rattle.rv_inst.specs.declared.instruction.Form.{Form}
use Rattle.rv_inst.specs.declared.instruction.Form.TheVariants.{LUI, ADDI, ADDIW, SLLI}
use Rattle.rv_model.specs.State.{plus64}
use Rattle.rv_model.specs.Operations.{bits64, upper_value, shifted_left, plus32}
use Rattle.rv_flips.specs.Cells.{Tag}
use Rattle.rv_flips.specs.Assertion.{Assertion, after_write}
use Rattle.flip_words.specs.Placed.{WindowPoints, Excepted, Carries}
use Rattle.flip_frames.specs.Views.{IsVersion, version}
use Rattle.flip_frames.specs.Slots.{any_load}
use Rattle.flip_guards.specs.Slots.{IsFramed, IsReached, used_up}

-- a word of those that make a constant in one register: its upper part, or a small number; then more is added, also as a number of 32
-- bits, or what is there is shifted to the left
pub data Part : Type 0 where
  Upper : (imm : ℤ) → Part
  Small : (imm : ℤ) → Part
  Plus : (imm : ℤ) → Part
  PlusWord : (imm : ℤ) → Part
  Shifted : (amount : ℤ) → Part

-- its instruction
abbrev pub part_word : ℕ → Part → Form
part_word d (Upper imm) = LUI d imm
part_word d (Small imm) = ADDI d 0 imm
part_word d (Plus imm) = ADDI d d imm
part_word d (PlusWord imm) = ADDIW d d imm
part_word d (Shifted amount) = SLLI d d amount

-- the instructions of a constant
abbrev pub part_words : ℕ → List Part → List Form
part_words d [] = []
part_words d (x ∷ xs) = part_word d x ∷ part_words d xs

-- what a function makes of a value, where it is known
abbrev pub of_known : (ℕ → ℕ) → Option ℕ → Option ℕ
of_known f None = None
of_known f (Some v) = Some (f v)

-- the value after a word
abbrev pub part_value : Part → Option ℕ → Option ℕ
part_value (Upper imm) o = Some (upper_value imm)
part_value (Small imm) o = Some (bits64 imm)
part_value (Plus imm) o = of_known (λ v. plus64 v (bits64 imm)) o
part_value (PlusWord imm) o = of_known (λ v. plus32 v (bits64 imm)) o
part_value (Shifted amount) o = of_known (λ v. shifted_left v (bits64 amount)) o

-- the value after all words
abbrev pub made : List Part → Option ℕ → Option ℕ
made [] o = o
made (x ∷ xs) o = made xs (part_value x o)

-- where one version comes from
pub data Source : Type 0 where
  InSlot : (n : ℕ) → Source
  InRegister : (r : ℕ) → Source
  Constant : (parts : List Part) → Source

-- the version comes into register d
abbrev pub bring : ℕ → Source → List Form
bring d (InSlot n) = any_load d n
bring d (InRegister r) = ADDI d r (pos 0) ∷ []
bring d (Constant parts) = part_words d parts

-- a register that may be the place of a version: x8 to x27
abbrev pub IsPlace : ℕ → Type 0
IsPlace r = (7 < r) × (r < 28)

-- the source gives this value with this tag
abbrev pub Gives : Assertion → ℕ → Source → Tag → Option ℕ → Type 0
Gives c base (InSlot n) tag o = IsReached c base n × (c.slots (base + n) ≡ version tag o)
Gives c base (InRegister r) tag o = IsPlace r × (c.regs r ≡ version tag o)
Gives c base (Constant parts) tag o = made parts None ≡ o

-- then register d keeps it
abbrev pub SourcesComeIn : Type 0
SourcesComeIn = (words : List ℕ) (c : Assertion) (base d : ℕ) (s : Source) (tag : Tag) (o : Option ℕ) → IsFramed c base → 4 < d
    → IsVersion tag → Gives c base s tag o
    → Carries words (Excepted WindowPoints words) (bring d s) c
    (after_write (used_up c (c.pc + 4 * length (bring d s))) d (version tag o) (c.pc + 4 * length (bring d s)))
