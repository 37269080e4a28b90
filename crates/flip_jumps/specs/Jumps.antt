-- Single words that go on elsewhere than at the next word, at any place of any text. Where a register is kept for sure at a word, that is
-- a point at which no flip falls (`Covered`).
use Rattle.std.specs.Prelude.{◌≡◌, ◌+◌, ◌%◌, ◌<◌, ℕ, ℤ, pos, List, [], ◌∷◌, if◌then◌else◌}
use Rattle.rv_inst.specs.declared.instruction.Form.{Form}
use Rattle.rv_inst.specs.declared.instruction.Form.TheVariants.{JAL, JALR}
use Rattle.rv_inst.specs.declared.table.Group.TheVariants.{Branches}
use Rattle.rv_inst.specs.Forms.{kind_of, operands_of}
use Rattle.rv_inst.specs.Groups.{group_of}
use Rattle.rv_model.specs.State.{plus64}
use Rattle.rv_model.specs.Operations.{bits64, is_taken}
use Rattle.rv_flips.specs.Cells.{Has, Sure}
use Rattle.rv_flips.specs.Assertion.{Assertion, after_write}
use Rattle.rv_flips.specs.Moves.{Covered, Moves}
use Rattle.flip_words.specs.Placed.{Points, Excepted, IsPlaced}

-- the address at this offset from p, where a jump or a branch that is taken goes to
abbrev pub target : ℕ → ℤ → ℕ
target p offset = plus64 p (bits64 offset)

-- a jump that links: its register has the address of the next word, for sure
abbrev pub JumpsLink : Type 0
JumpsLink = (points : Points) (words : List ℕ) (c : Assertion) (d : ℕ) (offset : ℤ) → IsPlaced words c.pc (JAL d offset ∷ []) → 0 < d
    → Covered (Excepted points words) c
    → Moves words (Excepted points words) c 1 (after_write c d (Has Sure (c.pc + 4)) (target c.pc offset))

-- a jump that doesn't
abbrev pub JumpsGo : Type 0
JumpsGo = (points : Points) (words : List ℕ) (c : Assertion) (offset : ℤ) → IsPlaced words c.pc (JAL 0 offset ∷ [])
    → Covered (Excepted points words) c → Moves words (Excepted points words) c 1 (record c { pc = target c.pc offset })

-- a jump to where a register points, which is an even address for sure
abbrev pub RegisterJumpsGo : Type 0
RegisterJumpsGo = (points : Points) (words : List ℕ) (c : Assertion) (a to : ℕ) → IsPlaced words c.pc (JALR 0 a (pos 0) ∷ [])
    → c.regs a ≡ Has Sure to → to % 2 ≡ 0 → Covered (Excepted points words) c
    → Moves words (Excepted points words) c 1 (record c { pc = to })

-- where a branch at p goes on that compares v with w
abbrev pub branch_target : Form → ℕ → ℕ → ℕ → ℕ
branch_target form v w p = if is_taken (kind_of form) v w then target p (operands_of form).imm else p + 4

-- a branch on two registers that are right for sure, as one of them and x0
abbrev pub BranchesGo : Type 0
BranchesGo = (points : Points) (words : List ℕ) (c : Assertion) (form : Form) (v w : ℕ) → group_of (kind_of form) ≡ Branches
    → IsPlaced words c.pc (form ∷ []) → c.regs (operands_of form).rs1 ≡ Has Sure v → c.regs (operands_of form).rs2 ≡ Has Sure w
    → Covered (Excepted points words) c
    → Moves words (Excepted points words) c 1 (record c { pc = branch_target form v w c.pc })
