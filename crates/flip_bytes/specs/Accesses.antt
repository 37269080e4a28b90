-- Loads and stores of bytes by single words, wherever they stand, for any registers and any offset of the data.
use Rattle.std.specs.Prelude.{◌≡◌, ◌+◌, ◌<◌, ◌≤◌, ℕ, ℤ, List, [], ◌∷◌, Option}
use Rattle.rv_inst.specs.declared.instruction.Form.{Form}
use Rattle.rv_inst.specs.declared.table.Group.TheVariants.{Loads, Stores}
use Rattle.rv_inst.specs.Forms.{kind_of, operands_of}
use Rattle.rv_inst.specs.Groups.{group_of}
use Rattle.rv_model.specs.State.{plus64}
use Rattle.rv_model.specs.Operations.{bits64, width, extended}
use Rattle.rv_model.specs.Text.{data_base}
use Rattle.rv_flips.specs.Cells.{Tag, Sure, Has}
use Rattle.rv_flips.specs.Assertion.{Assertion, after_write}
use Rattle.rv_flips.specs.Moves.{Covered}
use Rattle.flip_words.specs.Placed.{Points, Excepted, Carries}
use Rattle.flip_frames.specs.Views.{version}
use Rattle.flip_guards.specs.Sources.{of_known}
use Rattle.flip_bytes.specs.Bytes.{known_number, after_bytes}

-- a right address in register a and an offset lead to n bytes of the data from the offset o
pub record IsByteAddress (c : Assertion) (a : ℕ) (imm : ℤ) (o n : ℕ) : Type 0 where
  pub base : ℕ
  pub right : c.regs a ≡ Has Sure base
  pub leads : plus64 base (bits64 imm) ≡ data_base + o
  pub within : o + n ≤ c.size

-- a load: the register keeps, with any tag, the number of the bytes, extended as the instruction does, where they are known
abbrev pub BytesAreLoaded : Type 0
BytesAreLoaded = (points : Points) (words : List ℕ) (c : Assertion) (form : Form) (o : ℕ) (tag : Tag) → group_of (kind_of form) ≡ Loads
    → IsByteAddress c (operands_of form).rs1 (operands_of form).imm o (width (kind_of form)) → 0 < (operands_of form).rd
    → Covered (Excepted points words) c → Carries words (Excepted points words) (form ∷ []) c
    (after_write c (operands_of form).rd (version tag (of_known (extended (kind_of form)) (known_number c.bytes o (width (kind_of form))))) (c.pc + 4))

-- a store of a value that is right for sure, or of which nothing is known
abbrev pub BytesAreStored : Type 0
BytesAreStored = (points : Points) (words : List ℕ) (c : Assertion) (form : Form) (o : ℕ) (value : Option ℕ) → group_of (kind_of form) ≡ Stores
    → IsByteAddress c (operands_of form).rs1 (operands_of form).imm o (width (kind_of form)) → c.regs (operands_of form).rs2 ≡ version Sure value
    → Covered (Excepted points words) c
    → Carries words (Excepted points words) (form ∷ []) c (after_bytes c o (width (kind_of form)) value (c.pc + 4))
