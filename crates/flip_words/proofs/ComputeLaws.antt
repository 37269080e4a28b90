-- Words that compute, constants and copies, as code of one word.
use Rattle.std.proofs.Common.{◌≡◌, ℕ, ◌+◌, ◌<◌, ◌^◌, List, [], ◌∷◌, refl, ◌∙◌, ap, arith}
use Rattle.std.specs.Prelude.{ℤ, pos}
use Rattle.rv_inst.specs.declared.instruction.Form.{Form}
use Rattle.rv_inst.specs.declared.instruction.Form.TheVariants.{LUI, ADDI}
use Rattle.rv_inst.specs.Forms.{kind_of, operands_of}
use Rattle.rv_inst.specs.declared.table.Group.TheVariants.{Constants}
use Rattle.rv_inst.specs.Groups.{group_of, HasRegisters}
use Rattle.rv_inst.proofs.GroupLemmas.{registers_fit, constant_fits}
use Rattle.rv_model.specs.State.{MachineState, plus64}
use Rattle.rv_model.specs.Step.{put, act, act_by}
use Rattle.rv_model.proofs.ActLemmas.{upper_value_small}
use Rattle.rv_model.specs.Operations.{bits64, upper_value, operation}
use Rattle.rv_flips.specs.Cells.{Damage, Tag, Sure, Has}
use Rattle.rv_flips.specs.Assertion.{Assertion, Meets, after_write}
use Rattle.rv_flips.specs.Computing.{IsUncoded, KeepsOperands}
use Rattle.rv_flips.specs.Moves.{Covered, Does}
use Rattle.rv_flips.proofs.CellLemmas.{right_kept}
use Rattle.rv_flips.proofs.ComputingLaw.{computed_moves, constant_moves}
use Rattle.rv_flips.proofs.WordLaws.{upper_moves, copy_moves, does_put, step_here}
use Rattle.flip_words.specs.Placed.{IsPlaced, Carries}
use Rattle.flip_words.proofs.CarryLemmas.{carries_word, carries_moves}

-- the word after a placed one has an address below 2^64
next_small : (words : List ℕ) (p : ℕ) (form : Form) → IsPlaced words p (form ∷ []) → p + 4 < 2 ^ 64
next_small words p form h = omega (arith, h.room)

next_is : (words : List ℕ) (p : ℕ) (form : Form) → IsPlaced words p (form ∷ []) → plus64 p 4 ≡ p + 4
next_is words p form h = omega (arith, h.room)

pub compute_carries : (words : List ℕ) (listed : ℕ → ℕ → Type 0) (c : Assertion) (form : Form) (tag : Tag) (v w : ℕ) →
    KeepsOperands (group_of (kind_of form)) (operands_of form) c.regs tag v w → IsUncoded tag → 0 < (operands_of form).rd → Covered listed c →
    Carries words listed (form ∷ []) c (after_write c (operands_of form).rd (Has tag (operation (kind_of form) v w)) (c.pc + 4))
compute_carries words listed c form tag v w operands plain nonzero covered =
    carries_moves words listed form c (after_write c (operands_of form).rd (Has tag (operation (kind_of form) v w)) (c.pc + 4)) refl
    (λ placed. computed_moves words listed c form tag v w operands plain nonzero (next_small words c.pc form placed) placed.stands.0 covered)

pub act-constant : (i : Form) (s : MachineState) → group_of (kind_of i) ≡ Constants → act i s ≡ put (operands_of i).rd (upper_value (operands_of i).imm) s
unfolding act
act-constant i s e = ap (λ g. act_by g (kind_of i) (operands_of i) s) e

-- an instruction of the group of LUI
pub group_carries : (words : List ℕ) (listed : ℕ → ℕ → Type 0) (c : Assertion) (form : Form) (tag : Tag) → group_of (kind_of form) ≡ Constants → 0 < (operands_of form).rd → Covered listed c →
    Carries words listed (form ∷ []) c (after_write c (operands_of form).rd (Has tag (upper_value (operands_of form).imm)) (c.pc + 4))
group_carries words listed c form tag e nonzero covered = carries_word words listed form c (after_write c (operands_of form).rd (Has tag (upper_value (operands_of form).imm)) (c.pc + 4)) covered refl does
  where
    does : IsPlaced words c.pc (form ∷ []) → (damage : Damage) (s : MachineState) → Meets words c damage s → Does words damage s (after_write c (operands_of form).rd (Has tag (upper_value (operands_of form).imm)) (c.pc + 4))
    does placed damage s meets =
        let fits : HasRegisters (operands_of form) = registers_fit form placed.stands.0.is_word.0 in
        let u = upper_value (operands_of form).imm in
        let small : upper_value (operands_of form).imm < 2 ^ 64 = upper_value_small (operands_of form).imm (constant_fits form placed.stands.0.is_word.0 e) in
        does_put words c damage s (operands_of form).rd u (c.pc + 4) (Has tag u) meets nonzero fits.rd small (right_kept tag u u damage refl) (next_is words c.pc form placed)
        (step_here words c damage s form meets placed.stands.0 ∙ act-constant form s e)

pub upper_carries : (words : List ℕ) (listed : ℕ → ℕ → Type 0) (c : Assertion) (d : ℕ) (imm : ℤ) (tag : Tag) → 0 < d → Covered listed c → Carries words listed (LUI d imm ∷ []) c (after_write c d (Has tag (upper_value imm)) (c.pc + 4))
upper_carries words listed c d imm tag nonzero covered =
    carries_moves words listed (LUI d imm) c (after_write c d (Has tag (upper_value imm)) (c.pc + 4)) refl
    (λ placed. upper_moves words listed c d (c.pc + 4) imm tag nonzero (next_is words c.pc (LUI d imm) placed) placed.stands.0 covered)

pub constant_carries : (words : List ℕ) (listed : ℕ → ℕ → Type 0) (c : Assertion) (d : ℕ) (imm : ℤ) (tag : Tag) → c.regs 0 ≡ Has Sure 0 → 0 < d → Covered listed c →
    Carries words listed (ADDI d 0 imm ∷ []) c (after_write c d (Has tag (bits64 imm)) (c.pc + 4))
constant_carries words listed c d imm tag x0 nonzero covered =
    carries_moves words listed (ADDI d 0 imm) c (after_write c d (Has tag (bits64 imm)) (c.pc + 4)) refl
    (λ placed. constant_moves words listed c d imm tag x0 nonzero (next_small words c.pc (ADDI d 0 imm) placed) placed.stands.0 covered)

pub copy_carries : (words : List ℕ) (listed : ℕ → ℕ → Type 0) (c : Assertion) (d a : ℕ) → 0 < d → Covered listed c → Carries words listed (ADDI d a (pos 0) ∷ []) c (after_write c d (c.regs a) (c.pc + 4))
copy_carries words listed c d a nonzero covered =
    carries_moves words listed (ADDI d a (pos 0)) c (after_write c d (c.regs a) (c.pc + 4)) refl
    (λ placed. copy_moves words listed c d a (c.pc + 4) (c.regs a) refl nonzero (next_is words c.pc (ADDI d a (pos 0)) placed) placed.stands.0 covered)
