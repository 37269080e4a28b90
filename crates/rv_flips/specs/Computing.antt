-- Words that compute: operands that are kept in one way give a result that is kept so.
use Rattle.std.specs.Prelude.{◌≡◌, ◌⊎◌, ◌+◌, ◌<◌, ◌^◌, ℕ, List}
use Rattle.rv_inst.specs.declared.instruction.Form.{Form}
use Rattle.rv_inst.specs.declared.table.Group.{Group}
use Rattle.rv_inst.specs.declared.table.Group.TheVariants.{Immediates, Registers}
use Rattle.rv_inst.specs.declared.table.Operands.{Operands}
use Rattle.rv_inst.specs.Forms.{kind_of, operands_of}
use Rattle.rv_inst.specs.Groups.{group_of}
use Rattle.rv_model.specs.Operations.{bits64, operation}
use Rattle.rv_model.specs.Text.{Stands}
use Rattle.rv_flips.specs.Cells.{Cell, Tag, Sure, Code, Leaf, Has}
use Rattle.rv_flips.specs.Assertion.{Assertion, after_write}
use Rattle.rv_flips.specs.Moves.{Covered, Moves}
use Rattle.rv_flips.specs.Survives.{IsListed}

-- the tag isn't that of a code word
abbrev pub IsUncoded : Tag → Type 0
IsUncoded Code = ⊥
IsUncoded (Leaf first more) = ⊥
IsUncoded _ = Unit {0}

-- register r keeps v with this tag, or for sure, as x0 keeps 0
abbrev pub Keeps : (ℕ → Cell) → Tag → ℕ → ℕ → Type 0
Keeps regs tag r v = (regs r ≡ Has tag v) ⊎ (regs r ≡ Has Sure v)

-- v and w are the operands of an instruction that computes, of rs1 and of rs2 or the immediate; its registers keep them with this tag
abbrev pub KeepsOperands : Group → Operands → (ℕ → Cell) → Tag → ℕ → ℕ → Type 0
KeepsOperands Immediates o regs tag v w = Keeps regs tag o.rs1 v × (w ≡ bits64 o.imm)
KeepsOperands Registers o regs tag v w = Keeps regs tag o.rs1 v × Keeps regs tag o.rs2 w
KeepsOperands _ o regs tag v w = ⊥

-- a word that computes stands anywhere, its operands are kept with one tag, which is not that of a code word, and its destination isn't
-- x0. Then, whatever flip outside the list comes, after one instruction the destination keeps what the word computes with this tag, and
-- what else was known is known still
abbrev pub Computes : Type 0
Computes = (words : List ℕ) (points : List (ℕ × ℕ)) (c : Assertion) (form : Form) (tag : Tag) (v w : ℕ)
    → KeepsOperands (group_of (kind_of form)) (operands_of form) c.regs tag v w → IsUncoded tag
    → 0 < (operands_of form).rd → c.pc + 4 < 2 ^ 64 → Stands words c.pc form → Covered (IsListed points) c
    → Moves words (IsListed points) c 1
    (after_write c (operands_of form).rd (Has tag (operation (kind_of form) v w)) (c.pc + 4))
