-- What single words do, wherever they stand, for any registers and places. Where a register is kept for sure at a word, that is a point
-- at which no flip falls (`Covered`).
use Rattle.std.specs.Prelude.{◌≡◌, ◌+◌, ◌*◌, ◌<◌, ◌≤◌, ℕ, ℤ, pos, Bool, IsTrue, ◌||◌, List, [], ◌∷◌}
use Rattle.rv_inst.specs.declared.instruction.Form.{Form}
use Rattle.rv_inst.specs.declared.instruction.Form.TheVariants.{LUI, ADDI, LD, SD}
use Rattle.rv_inst.specs.declared.table.Group.TheVariants.{Constants, Immediates, Registers}
use Rattle.rv_inst.specs.Forms.{kind_of, operands_of}
use Rattle.rv_inst.specs.Groups.{group_of, is_same_group}
use Rattle.rv_model.specs.State.{plus64}
use Rattle.rv_model.specs.Operations.{bits64, upper_value, operation}
use Rattle.rv_model.specs.Text.{data_base}
use Rattle.rv_flips.specs.Cells.{Free, Has, Sure, Tag}
use Rattle.rv_flips.specs.Assertion.{Assertion, after_write}
use Rattle.rv_flips.specs.Computing.{IsUncoded, KeepsOperands}
use Rattle.rv_flips.specs.Moves.{Covered}
use Rattle.flip_words.specs.Memory.{after_store}
use Rattle.flip_words.specs.Placed.{Points, Excepted, Carries}

-- a word that computes, of operands that are kept with one tag
abbrev pub WordsCompute : Type 0
WordsCompute = (points : Points) (words : List ℕ) (c : Assertion) (form : Form) (tag : Tag) (v w : ℕ)
    → KeepsOperands (group_of (kind_of form)) (operands_of form) c.regs tag v w → IsUncoded tag → 0 < (operands_of form).rd
    → Covered (Excepted points words) c
    → Carries words (Excepted points words) (form ∷ []) c (after_write c (operands_of form).rd (Has tag (operation (kind_of form) v w)) (c.pc + 4))

-- the instruction only computes: LUI, or one of an immediate or of registers
abbrev pub only_computes : Form → Bool
only_computes form =
    is_same_group Constants (group_of (kind_of form))
    || (is_same_group Immediates (group_of (kind_of form)) || is_same_group Registers (group_of (kind_of form)))

-- a word that computes, of anything: it goes on, and of its result nothing is known
abbrev pub AnythingIsComputed : Type 0
AnythingIsComputed = (points : Points) (words : List ℕ) (c : Assertion) (form : Form) → IsTrue (only_computes form) → 0 < (operands_of form).rd
    → Covered (Excepted points words) c → Carries words (Excepted points words) (form ∷ []) c (after_write c (operands_of form).rd Free (c.pc + 4))

-- a constant by LUI, kept with any tag
abbrev pub UpperPartsAreKept : Type 0
UpperPartsAreKept = (points : Points) (words : List ℕ) (c : Assertion) (d : ℕ) (imm : ℤ) (tag : Tag) → 0 < d → Covered (Excepted points words) c
    → Carries words (Excepted points words) (LUI d imm ∷ []) c (after_write c d (Has tag (upper_value imm)) (c.pc + 4))

-- a constant by ADDI from x0, kept with any tag
abbrev pub ConstantsAreKept : Type 0
ConstantsAreKept = (points : Points) (words : List ℕ) (c : Assertion) (d : ℕ) (imm : ℤ) (tag : Tag) → c.regs 0 ≡ Has Sure 0 → 0 < d
    → Covered (Excepted points words) c → Carries words (Excepted points words) (ADDI d 0 imm ∷ []) c (after_write c d (Has tag (bits64 imm)) (c.pc + 4))

-- a copy: of d is known what is known of a
abbrev pub CopiesAreKept : Type 0
CopiesAreKept = (points : Points) (words : List ℕ) (c : Assertion) (d a : ℕ) → 0 < d → Covered (Excepted points words) c
    → Carries words (Excepted points words) (ADDI d a (pos 0) ∷ []) c (after_write c d (c.regs a) (c.pc + 4))

-- the address of word k of the data
abbrev pub slot_address : ℕ → ℕ
slot_address k = data_base + 8 * k

-- a right address in register a and an offset lead to word k of the data
pub record IsSlotAddress (c : Assertion) (a : ℕ) (imm : ℤ) (k : ℕ) : Type 0 where
  pub base : ℕ
  pub right : c.regs a ≡ Has Sure base
  pub leads : plus64 base (bits64 imm) ≡ slot_address k
  pub within : 8 * k + 8 ≤ c.size

-- a load of word k: of d is known what is known of the word
abbrev pub SlotsAreLoaded : Type 0
SlotsAreLoaded = (points : Points) (words : List ℕ) (c : Assertion) (d a : ℕ) (imm : ℤ) (k : ℕ) → IsSlotAddress c a imm k → 0 < d
    → Covered (Excepted points words) c → Carries words (Excepted points words) (LD d a imm ∷ []) c (after_write c d (c.slots k) (c.pc + 4))

-- a store to word k: of the word is known what is known of register r, and of its single bytes nothing
abbrev pub SlotsAreStored : Type 0
SlotsAreStored = (points : Points) (words : List ℕ) (c : Assertion) (a r : ℕ) (imm : ℤ) (k : ℕ) → IsSlotAddress c a imm k
    → Covered (Excepted points words) c → Carries words (Excepted points words) (SD a r imm ∷ []) c (after_store c k (c.regs r) (c.pc + 4))
