-- Jumps and branches, as words.
use Rattle.std.proofs.Common.{◌≡◌, ℕ, ◌+◌, ◌%◌, ◌<◌, ◌^◌, Bool, cond, List, [], ◌∷◌, refl, ◌∙◌, ap, subst, arith}
use Rattle.std.specs.Prelude.{ℤ, pos}
use Rattle.rv_inst.specs.declared.instruction.Form.{Form}
use Rattle.rv_inst.specs.declared.instruction.Form.TheVariants.{JAL, JALR}
use Rattle.rv_inst.specs.declared.table.Group.TheVariants.{Branches}
use Rattle.rv_inst.specs.Word.{Fits}
use Rattle.rv_inst.specs.Forms.{kind_of, operands_of}
use Rattle.rv_inst.specs.Groups.{group_of}
use Rattle.rv_model.specs.State.{MachineState, register, set_register, plus64, jump}
use Rattle.rv_model.specs.Operations.{bits64, is_taken, even_part}
use Rattle.rv_model.specs.Step.{Continues, branched, linked, act_by, act, step}
use Rattle.rv_flips.specs.Cells.{Damage, Cell, Has, Sure, Holds}
use Rattle.rv_flips.specs.Assertion.{Assertion, Meets, after_write}
use Rattle.rv_flips.specs.Moves.{Covered, Does, Moves}
use Rattle.rv_flips.proofs.CellLemmas.{right_kept, holds_sure}
use Rattle.rv_flips.proofs.Fetch.{meets_jump}
use Rattle.rv_flips.proofs.MoveLemmas.{one_word}
use Rattle.rv_flips.proofs.WordLaws.{meets_put, step_here}
use Rattle.flip_words.specs.Placed.{IsPlaced}
use Rattle.flip_jumps.specs.Jumps.{target, branch_target}

act-JAL : (d : ℕ) (offset : ℤ) (s : MachineState) → act (JAL d offset) s ≡ linked d (plus64 s.pc (bits64 offset)) s
unfolding act
act-JAL d offset s = refl

act-JALR : (d a : ℕ) (offset : ℤ) (s : MachineState) → act (JALR d a offset) s ≡ linked d (even_part (plus64 (register s a) (bits64 offset))) s
unfolding act
act-JALR d a offset s = refl

act-branch : (i : Form) (s : MachineState) → group_of (kind_of i) ≡ Branches
    → act i s ≡ Continues (branched (is_taken (kind_of i) (register s (operands_of i).rs1) (register s (operands_of i).rs2)) (operands_of i).imm s)
unfolding act
act-branch i s e = ap (λ g. act_by g (kind_of i) (operands_of i) s) e

-- x0 stays as it is
set_zero : (s : MachineState) (v : ℕ) → set_register s 0 v ≡ s
unfolding set_register
set_zero s v = refl

-- a register is written, and the machine goes on elsewhere
meets_link : (words : List ℕ) (c : Assertion) (damage : Damage) (s : MachineState) (d v to : ℕ) → Meets words c damage s → 0 < d → d < 32 → v < 2 ^ 64 → plus64 c.pc 4 ≡ v → Meets words (after_write c d (Has Sure v) to) damage (jump (set_register s d v) to)
meets_link words c damage s d v to meets nonzero small wide at =
    meets_jump words (after_write c d (Has Sure v) v) to damage _ (meets_put words c damage s d v v (Has Sure v) meets nonzero small wide (right_kept Sure v v damage refl) at)

pub link_moves : (words : List ℕ) (listed : ℕ → ℕ → Type 0) (c : Assertion) (d : ℕ) (offset : ℤ) → IsPlaced words c.pc (JAL d offset ∷ []) → 0 < d → Covered listed c → Moves words listed c 1 (after_write c d (Has Sure (c.pc + 4)) (target c.pc offset))
link_moves words listed c d offset placed nonzero covered = one_word words listed c (after_write c d (Has Sure (c.pc + 4)) (target c.pc offset)) covered does
  where
    does : (damage : Damage) (s : MachineState) → Meets words c damage s → Does words damage s (after_write c d (Has Sure (c.pc + 4)) (target c.pc offset))
    does damage s meets =
        let fits : Fits (JAL d offset) = placed.stands.0.is_word.0 in
        let at : plus64 c.pc 4 ≡ c.pc + 4 = omega (arith, placed.room) in
        let wide : c.pc + 4 < 2 ^ 64 = omega (arith, placed.room) in
        let next : plus64 s.pc 4 ≡ c.pc + 4 = ap (λ p. plus64 p 4) meets.pc ∙ at in
        let goes : step s ≡ Continues (jump (set_register s d (c.pc + 4)) (target c.pc offset)) =
        step_here words c damage s (JAL d offset) meets placed.stands.0 ∙ act-JAL d offset s
        ∙ ap (λ v. Continues (jump (set_register s d v) (plus64 s.pc (bits64 offset)))) next ∙ ap (λ p. Continues (jump (set_register s d (c.pc + 4)) (plus64 p (bits64 offset)))) meets.pc in
        record {
          state = jump (set_register s d (c.pc + 4)) (target c.pc offset);
          goes = goes;
          meets = meets_link words c damage s d (c.pc + 4) (target c.pc offset) meets nonzero fits.0 wide at;
        }

pub jump_moves : (words : List ℕ) (listed : ℕ → ℕ → Type 0) (c : Assertion) (offset : ℤ) → IsPlaced words c.pc (JAL 0 offset ∷ []) → Covered listed c → Moves words listed c 1 (record c { pc = target c.pc offset })
jump_moves words listed c offset placed covered = one_word words listed c (record c { pc = target c.pc offset }) covered does
  where
    does : (damage : Damage) (s : MachineState) → Meets words c damage s → Does words damage s (record c { pc = target c.pc offset })
    does damage s meets =
        let goes : step s ≡ Continues (jump s (target c.pc offset)) =
        step_here words c damage s (JAL 0 offset) meets placed.stands.0 ∙ act-JAL 0 offset s
        ∙ ap (λ t. Continues (jump t (plus64 s.pc (bits64 offset)))) (set_zero s (plus64 s.pc 4)) ∙ ap (λ p. Continues (jump s (plus64 p (bits64 offset)))) meets.pc in
        record { state = jump s (target c.pc offset); goes = goes; meets = meets_jump words c (target c.pc offset) damage s meets }

pub register_jump_moves : (words : List ℕ) (listed : ℕ → ℕ → Type 0) (c : Assertion) (a to : ℕ) → IsPlaced words c.pc (JALR 0 a (pos 0) ∷ []) → c.regs a ≡ Has Sure to → to % 2 ≡ 0 → Covered listed c → Moves words listed c 1 (record c { pc = to })
register_jump_moves words listed c a to placed right even covered = one_word words listed c (record c { pc = to }) covered does
  where
    does : (damage : Damage) (s : MachineState) → Meets words c damage s → Does words damage s (record c { pc = to })
    does damage s meets =
        let P : Cell → Type 0 = λ cell. Holds cell damage (register s a) in
        let held : register s a ≡ to = holds_sure to (register s a) damage (subst P right (meets.regs a)) in
        let wide : register s a < 2 ^ 64 = meets.wide a in
        let there : even_part (plus64 (register s a) 0) ≡ to = omega arith in
        let goes : step s ≡ Continues (jump s to) =
        step_here words c damage s (JALR 0 a (pos 0)) meets placed.stands.0 ∙ act-JALR 0 a (pos 0) s
        ∙ ap (λ t. Continues (jump t (even_part (plus64 (register s a) 0)))) (set_zero s (plus64 s.pc 4)) ∙ ap (λ p. Continues (jump s p)) there in
        record { state = jump s to; goes = goes; meets = meets_jump words c to damage s meets }

pub branch_moves : (words : List ℕ) (listed : ℕ → ℕ → Type 0) (c : Assertion) (form : Form) (v w : ℕ) → group_of (kind_of form) ≡ Branches → IsPlaced words c.pc (form ∷ []) → c.regs (operands_of form).rs1 ≡ Has Sure v → c.regs (operands_of form).rs2 ≡ Has Sure w →
    Covered listed c → Moves words listed c 1 (record c { pc = branch_target form v w c.pc })
branch_moves words listed c form v w branch placed one two covered = one_word words listed c (record c { pc = branch_target form v w c.pc }) covered does
  where
    goes_on : Bool → ℕ → ℕ
    goes_on taken p = cond taken (plus64 p (bits64 (operands_of form).imm)) (plus64 p 4)

    does : (damage : Damage) (s : MachineState) → Meets words c damage s → Does words damage s (record c { pc = branch_target form v w c.pc })
    does damage s meets =
        let a = (operands_of form).rs1 in
        let b = (operands_of form).rs2 in
        let P : Cell → Type 0 = λ cell. Holds cell damage (register s a) in
        let Q : Cell → Type 0 = λ cell. Holds cell damage (register s b) in
        let x : register s a ≡ v = holds_sure v (register s a) damage (subst P one (meets.regs a)) in
        let y : register s b ≡ w = holds_sure w (register s b) damage (subst Q two (meets.regs b)) in
        let at : plus64 c.pc 4 ≡ c.pc + 4 = omega (arith, placed.room) in
        let goes : step s ≡ Continues (jump s (branch_target form v w c.pc)) =
        step_here words c damage s form meets placed.stands.0 ∙ act-branch form s branch
        ∙ ap (λ n. Continues (jump s (goes_on (is_taken (kind_of form) n (register s b)) s.pc))) x
        ∙ ap (λ n. Continues (jump s (goes_on (is_taken (kind_of form) v n) s.pc))) y
        ∙ ap (λ p. Continues (jump s (goes_on (is_taken (kind_of form) v w) p))) meets.pc
        ∙ ap (λ p. Continues (jump s (cond (is_taken (kind_of form) v w) (target c.pc (operands_of form).imm) p))) at in
        record { state = jump s (branch_target form v w c.pc); goes = goes; meets = meets_jump words c (branch_target form v w c.pc) damage s meets }
