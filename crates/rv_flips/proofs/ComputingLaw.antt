-- Words that compute: operands that are kept in one way give a result that is kept so.
use Rattle.std.proofs.Common.{◌≡◌, ℕ, ◌+◌, ◌<◌, ◌^◌, inl, inr, List, refl, sym, ◌∙◌, ap, subst, arith}
use Rattle.rv_inst.specs.declared.instruction.Form.{Form}
use Rattle.rv_inst.specs.declared.instruction.Form.TheVariants.{ADDI}
use Rattle.std.specs.Prelude.{ℤ}
use Rattle.rv_inst.specs.declared.table.Group.{Group}
use Rattle.rv_inst.specs.declared.table.Group.TheVariants.{Constants, Addresses, Jumps, RegisterJumps, Branches, Loads, Stores, Immediates, Registers, Calls}
use Rattle.rv_inst.specs.Word.{Fits}
use Rattle.rv_inst.specs.Forms.{kind_of, operands_of}
use Rattle.rv_inst.specs.Groups.{group_of, HasRegisters}
use Rattle.rv_inst.proofs.GroupLemmas.{registers_fit}
use Rattle.rv_model.specs.State.{MachineState, register, plus64}
use Rattle.rv_model.specs.Operations.{bits64, operation}
use Rattle.rv_model.specs.Step.{put, act, step}
use Rattle.rv_model.specs.Text.{Stands}
use Rattle.rv_model.proofs.ActLemmas.{act-ADDI, act-immediate, act-registers}
use Rattle.rv_model.proofs.Widths.{operation_wide, immediate_wide}
use Rattle.rv_flips.specs.Cells.{Damage, First, Second, Third, Plains, Codes, Tag, Sure, One, Two, Three, Plain, Code, Leaf, Cell, Has, Holds}
use Rattle.rv_flips.specs.Assertion.{Assertion, Meets, after_write}
use Rattle.rv_flips.specs.Moves.{Covered, Does, Moves}
use Rattle.rv_flips.specs.Computing.{IsUncoded, Keeps, KeepsOperands}
use Rattle.rv_flips.proofs.CellLemmas.{right_kept, holds_sure}
use Rattle.rv_flips.proofs.MoveLemmas.{one_word}
use Rattle.rv_flips.proofs.WordLaws.{does_put, step_here}

-- what a register that keeps v holds
kept_holds : (regs : ℕ → Cell) (tag : Tag) (r v x : ℕ) (damage : Damage) → Keeps regs tag r v → Holds (regs r) damage x → Holds (Has tag v) damage x
kept_holds regs tag r v x damage (inl is) h = let P : Cell → Type 0 = λ cell. Holds cell damage x in subst P is h
kept_holds regs tag r v x damage (inr is) h =
    let P : Cell → Type 0 = λ cell. Holds cell damage x in
    right_kept tag v x damage (holds_sure v x damage (subst P is h))

-- what is computed of two numbers that are right
both : (f : ℕ → ℕ → ℕ) (v w x y : ℕ) → x ≡ v → y ≡ w → f x y ≡ f v w
both f v w x y h k = ap (λ a. f a y) h ∙ ap (f v) k

-- where a damage takes no operand away, the result is right; where it takes one away, it takes the result away
pub result_holds : (tag : Tag) (f : ℕ → ℕ → ℕ) (v w x y : ℕ) (damage : Damage) → IsUncoded tag → Holds (Has tag v) damage x → Holds (Has tag w) damage y → Holds (Has tag (f v w)) damage (f x y)
result_holds One f v w x y First other h k = tt
result_holds Two f v w x y Second other h k = tt
result_holds Three f v w x y Third other h k = tt
result_holds Plain f v w x y Plains other h k = tt
result_holds Code f v w x y damage other h k = absurd other
result_holds (Leaf first more) f v w x y damage other h k = absurd other
result_holds Sure f v w x y (Codes leaf) other h k = both f v w x y h k
result_holds _ f v w x y (Codes leaf) other h k = both f v w x y h k
result_holds _ f v w x y _ other h k = both f v w x y h k

pub computed_moves : (words : List ℕ) (listed : ℕ → ℕ → Type 0) (c : Assertion) (form : Form) (tag : Tag) (v w : ℕ) →
    KeepsOperands (group_of (kind_of form)) (operands_of form) c.regs tag v w → IsUncoded tag → 0 < (operands_of form).rd → c.pc + 4 < 2 ^ 64 → Stands words c.pc form → Covered listed c →
    Moves words listed c 1 (after_write c (operands_of form).rd (Has tag (operation (kind_of form) v w)) (c.pc + 4))
computed_moves words listed c form tag v w operands other nonzero room stands covered = one_word words listed c _ covered does
  where
    -- from the numbers that the operands have in the state
    computes : (damage : Damage) (s : MachineState) (y : ℕ) → Meets words c damage s → Keeps c.regs tag (operands_of form).rs1 v → Holds (Has tag w) damage y → y < 2 ^ 64 →
        act form s ≡ put (operands_of form).rd (operation (kind_of form) (register s (operands_of form).rs1) y) s → Does words damage s (after_write c (operands_of form).rd (Has tag (operation (kind_of form) v w)) (c.pc + 4))
    computes damage s y meets first second small acts =
        let fits : HasRegisters (operands_of form) = registers_fit form stands.is_word.0 in
        let a = (operands_of form).rs1 in
        let d = (operands_of form).rd in
        let x = register s (operands_of form).rs1 in
        let held : Holds (Has tag v) damage x = kept_holds c.regs tag a v x damage first (meets.regs a) in
        let wide : operation (kind_of form) x y < 2 ^ 64 = operation_wide (kind_of form) x y (meets.wide a) small in
        let at : plus64 c.pc 4 ≡ c.pc + 4 = omega arith in
        does_put words c damage s d (operation (kind_of form) x y) (c.pc + 4) (Has tag (operation (kind_of form) v w)) meets nonzero fits.rd wide
        (result_holds tag (operation (kind_of form)) v w x y damage other held second) at (step_here words c damage s form meets stands ∙ acts)

    by_group : (g : Group) → group_of (kind_of form) ≡ g → KeepsOperands g (operands_of form) c.regs tag v w → (damage : Damage) (s : MachineState) → Meets words c damage s →
        Does words damage s (after_write c (operands_of form).rd (Has tag (operation (kind_of form) v w)) (c.pc + 4))
    by_group Immediates e (first, second) damage s meets =
        computes damage s (bits64 (operands_of form).imm) meets first (right_kept tag w (bits64 (operands_of form).imm) damage (sym second)) (immediate_wide form stands.is_word.0) (act-immediate form s e)
    by_group Registers e (first, second) damage s meets =
        let b = (operands_of form).rs2 in
        computes damage s (register s b) meets first (kept_holds c.regs tag b w (register s b) damage second (meets.regs b)) (meets.wide b) (act-registers form s e)
    by_group Constants e k damage s meets = absurd k
    by_group Addresses e k damage s meets = absurd k
    by_group Jumps e k damage s meets = absurd k
    by_group RegisterJumps e k damage s meets = absurd k
    by_group Branches e k damage s meets = absurd k
    by_group Loads e k damage s meets = absurd k
    by_group Stores e k damage s meets = absurd k
    by_group Calls e k damage s meets = absurd k

    does : (damage : Damage) (s : MachineState) → Meets words c damage s → Does words damage s (after_write c (operands_of form).rd (Has tag (operation (kind_of form) v w)) (c.pc + 4))
    does damage s meets = by_group (group_of (kind_of form)) refl operands damage s meets

-- a constant, by ADDI from x0; a right value may be kept by any tag
pub constant_moves : (words : List ℕ) (listed : ℕ → ℕ → Type 0) (c : Assertion) (d : ℕ) (imm : ℤ) (tag : Tag) → c.regs 0 ≡ Has Sure 0 → 0 < d → c.pc + 4 < 2 ^ 64 → Stands words c.pc (ADDI d 0 imm) → Covered listed c →
    Moves words listed c 1 (after_write c d (Has tag (bits64 imm)) (c.pc + 4))
constant_moves words listed c d imm tag x0 nonzero room stands covered = one_word words listed c _ covered does
  where
    does : (damage : Damage) (s : MachineState) → Meets words c damage s → Does words damage s (after_write c d (Has tag (bits64 imm)) (c.pc + 4))
    does damage s meets =
        let fits : Fits (ADDI d 0 imm) = stands.is_word.0 in
        let small : bits64 imm < 2 ^ 64 = immediate_wide (ADDI d 0 imm) stands.is_word.0 in
        let P : Cell → Type 0 = λ cell. Holds cell damage (register s 0) in
        let none : register s 0 ≡ 0 = holds_sure 0 (register s 0) damage (subst P x0 (meets.regs 0)) in
        let value : plus64 (register s 0) (bits64 imm) ≡ bits64 imm = omega arith in
        let at : plus64 c.pc 4 ≡ c.pc + 4 = omega arith in
        let goes : step s ≡ put d (bits64 imm) s = step_here words c damage s (ADDI d 0 imm) meets stands ∙ act-ADDI d 0 imm s ∙ ap (λ v. put d v s) value in
        does_put words c damage s d (bits64 imm) (c.pc + 4) (Has tag (bits64 imm)) meets nonzero fits.0 small (right_kept tag (bits64 imm) (bits64 imm) damage refl) at goes
