-- Words of guarded sequences, each with what it leaves in a register.
use Rattle.std.proofs.Common.{◌≡◌, ℕ, suc, ◌+◌, ◌*◌, ◌<◌, ◌≤◌, ◌^◌, ◌==◌, inl, inr, true, false, List, [], ◌∷◌, length, take, drop, Option, Some, None, refl, ◌∙◌, ap, subst, arith}
use Rattle.std.specs.Prelude.{ℤ, pos}
use Rattle.std.proofs.lemmas.Bool.Decides.{nat_tests}
use Rattle.rv_inst.specs.declared.instruction.Form.{Form}
use Rattle.rv_inst.specs.declared.instruction.Form.TheVariants.{LUI, ADDI, BEQ, LD}
use Rattle.rv_inst.specs.Forms.{kind_of, operands_of}
use Rattle.rv_inst.specs.Groups.{group_of}
use Rattle.rv_model.specs.declared.Flip.{Flip}
use Rattle.rv_model.specs.State.{MachineState, register, plus64, jump}
use Rattle.rv_model.specs.Step.{StepResult, Continues, branched, step}
use Rattle.rv_model.specs.Run.{more, after, run}
use Rattle.rv_model.specs.Operations.{bits64, upper_value, operation}
use Rattle.rv_model.specs.Text.{data_base, Stands}
use Rattle.rv_model.proofs.ActLemmas.{act-BEQ}
use Rattle.rv_model.proofs.RunLemmas.{more-more}
use Rattle.rv_flips.specs.Cells.{Tag, Sure, One, Two, Three, Free, Has}
use Rattle.rv_flips.specs.Assertion.{Assertion, KnowsLess, with_register, after_write}
use Rattle.rv_flips.specs.Computing.{IsUncoded, KeepsOperands}
use Rattle.rv_flips.specs.Moves.{Covered, Ready, Arrives, Moves}
use Rattle.rv_flips.proofs.CellLemmas.{says_same, says_free}
use Rattle.rv_flips.proofs.Fetch.{decided, meets_jump}
use Rattle.rv_flips.proofs.FlipLemmas.{ready}
use Rattle.rv_flips.proofs.MoveLemmas.{moves_none, moves_within, moves_weaker}
use Rattle.rv_flips.proofs.WordLaws.{meets_less, step_here}
use Rattle.flip_words.specs.Placed.{WindowPoints, AllPoints, Excepted, IsPlaced, Carries}
use Rattle.flip_words.specs.Joining.{checked, promoted}
use Rattle.flip_words.specs.Words.{IsSlotAddress}
use Rattle.flip_words.proofs.CarryLemmas.{carries_less}
use Rattle.flip_words.proofs.LessLemmas.{says_again, knows_same, knows_regs, written_says}
use Rattle.flip_words.proofs.ComputeLaws.{compute_carries, upper_carries, constant_carries, copy_carries}
use Rattle.flip_words.proofs.CheckLaw.{check_carries}
use Rattle.flip_words.proofs.SlotLaws.{load_carries}
use Rattle.flip_frames.specs.Views.{version}
use Rattle.flip_frames.proofs.Fetches.{copy_repairs}
use Rattle.flip_guards.specs.Guards.{over, Guard, guard_at}
use Rattle.flip_guards.proofs.Lines.{forgets, put_in, sures_of, all_in_windows, Line, line_piece, line_word, guard_written, covered_at}

-- a constant by LUI
pub line_upper : {words : List ℕ} {code : List Form} {start γ : Guard} {k : ℕ} (d : ℕ) (imm : ℤ) (tag : Tag) → take 1 (drop k code) ≡ LUI d imm ∷ [] → 0 < d → all_in_windows code k (sures_of γ.kept) ≡ true → Line words code start k γ →
    Line words code start (k + 1) (record γ { kept = put_in d tag (Some (upper_value imm)) γ.kept })
line_upper {words = words} {γ = γ} d imm tag e nonzero windows line =
    line_word (LUI d imm) (record γ { kept = put_in d tag (Some (upper_value imm)) γ.kept }) e windows
    (λ q covered. carries_less (knows_same (guard_at γ q)) (upper_carries words (Excepted WindowPoints words) (guard_at γ q) d imm tag nonzero covered)
    (guard_written γ d tag (Some (upper_value imm)) (Has tag (upper_value imm)) q (q + 4) (q + 4) (says_again (Has tag (upper_value imm))) refl))
    (λ calm. calm) line

-- a constant by ADDI from x0
pub line_constant : {words : List ℕ} {code : List Form} {start γ : Guard} {k : ℕ} (d : ℕ) (imm : ℤ) (tag : Tag) → take 1 (drop k code) ≡ ADDI d 0 imm ∷ [] → 0 < d → over γ.kept γ.around.regs 0 ≡ Has Sure 0 →
    all_in_windows code k (sures_of γ.kept) ≡ true → Line words code start k γ → Line words code start (k + 1) (record γ { kept = put_in d tag (Some (bits64 imm)) γ.kept })
line_constant {words = words} {γ = γ} d imm tag e nonzero x0 windows line =
    line_word (ADDI d 0 imm) (record γ { kept = put_in d tag (Some (bits64 imm)) γ.kept }) e windows
    (λ q covered. carries_less (knows_same (guard_at γ q)) (constant_carries words (Excepted WindowPoints words) (guard_at γ q) d imm tag x0 nonzero covered)
    (guard_written γ d tag (Some (bits64 imm)) (Has tag (bits64 imm)) q (q + 4) (q + 4) (says_again (Has tag (bits64 imm))) refl))
    (λ calm. calm) line

-- a word that computes
pub line_compute : {words : List ℕ} {code : List Form} {start γ : Guard} {k : ℕ} (form : Form) (tag : Tag) (v w : ℕ) → take 1 (drop k code) ≡ form ∷ [] →
    KeepsOperands (group_of (kind_of form)) (operands_of form) (over γ.kept γ.around.regs) tag v w → IsUncoded tag → 0 < (operands_of form).rd → all_in_windows code k (sures_of γ.kept) ≡ true → Line words code start k γ →
    Line words code start (k + 1) (record γ { kept = put_in (operands_of form).rd tag (Some (operation (kind_of form) v w)) γ.kept })
line_compute {words = words} {γ = γ} form tag v w e keeps uncoded nonzero windows line =
    line_word form (record γ { kept = put_in (operands_of form).rd tag (Some (operation (kind_of form) v w)) γ.kept }) e windows
    (λ q covered. carries_less (knows_same (guard_at γ q)) (compute_carries words (Excepted WindowPoints words) (guard_at γ q) form tag v w keeps uncoded nonzero covered)
    (guard_written γ (operands_of form).rd tag (Some (operation (kind_of form) v w)) (Has tag (operation (kind_of form) v w)) q (q + 4) (q + 4) (says_again (Has tag (operation (kind_of form) v w))) refl))
    (λ calm. calm) line

-- a load of a slot by a right address
pub line_load : {words : List ℕ} {code : List Form} {start γ : Guard} {k : ℕ} (d a : ℕ) (imm : ℤ) (n : ℕ) (tag : Tag) (o : Option ℕ) → take 1 (drop k code) ≡ LD d a imm ∷ [] → 0 < d → ((q : ℕ) → IsSlotAddress (guard_at γ q) a imm n) →
    γ.around.slots n ≡ version tag o → all_in_windows code k (sures_of γ.kept) ≡ true → Line words code start k γ → Line words code start (k + 1) (record γ { kept = put_in d tag o γ.kept })
line_load {words = words} {γ = γ} d a imm n tag o e nonzero there holds windows line =
    line_word (LD d a imm) (record γ { kept = put_in d tag o γ.kept }) e windows
    (λ q covered. carries_less (knows_same (guard_at γ q)) (load_carries words (Excepted WindowPoints words) (guard_at γ q) d a imm n (there q) nonzero covered)
    (guard_written γ d tag o (γ.around.slots n) q (q + 4) (q + 4) (says_same (γ.around.slots n) (version tag o) holds) refl))
    (λ calm. calm) line

-- a check of two copies, with a copy of a third as its repair
abbrev pub check_piece : ℕ → ℕ → ℕ → List Form
check_piece d b t = BEQ d b (pos 8) ∷ ADDI d t (pos 0) ∷ []

pub line_check : {words : List ℕ} {code : List Form} {start γ : Guard} {k : ℕ} (d b t v : ℕ) → take 2 (drop k code) ≡ check_piece d b t → over γ.kept γ.around.regs d ≡ Has One v → over γ.kept γ.around.regs b ≡ Has Two v →
    over γ.kept γ.around.regs t ≡ Has Three v → 0 < d → all_in_windows code k (sures_of γ.kept) ≡ true → Line words code start k γ → Line words code start (k + 2) (record γ { kept = put_in d Sure (Some v) γ.kept })
line_check {words = words} {code = code} {γ = γ} {k = k} d b t v e one two three nonzero windows line =
    line_piece (check_piece d b t) (record γ { kept = put_in d Sure (Some v) γ.kept }) (omega arith) e
    (λ still p placed. carries_less (knows_same (guard_at γ (p + 4 * k)))
    (copy_repairs words (guard_at γ (p + 4 * k)) d b t v (p + 4 * k) (p + 4 * k + 8) one two three nonzero refl refl (covered_at words p code k γ placed still windows))
    (guard_written γ d Sure (Some v) (Has Sure v) (p + 4 * k) (p + 4 * k + 8) (p + 4 * k + 8) (says_again (Has Sure v)) refl))
    (λ calm. calm) line

-- a check with a repair of any words
pub line_repair : {words : List ℕ} {code : List Form} {start γ : Guard} {k : ℕ} (d b v : ℕ) (repair : List Form) → take (length (checked d b repair)) (drop k code) ≡ checked d b repair → over γ.kept γ.around.regs d ≡ Has One v →
    over γ.kept γ.around.regs b ≡ Has Two v → all_in_windows code k (sures_of γ.kept) ≡ true →
    ((q : ℕ) → Carries words (Excepted AllPoints words) repair (promoted (guard_at γ q) (q + 4)) (guard_at (record γ { kept = put_in d Sure (Some v) γ.kept }) (q + 4 * length (checked d b repair)))) →
    Line words code start k γ → Line words code start (k + length (checked d b repair)) (record γ { kept = put_in d Sure (Some v) γ.kept })
line_repair {words = words} {code = code} {γ = γ} {k = k} d b v repair e one two windows back line =
    line_piece (checked d b repair) (record γ { kept = put_in d Sure (Some v) γ.kept }) (omega arith) e
    (λ still p placed.
    let q = p + 4 * k in
    check_carries words (Excepted WindowPoints words) (guard_at γ (p + 4 * k)) (guard_at (record γ { kept = put_in d Sure (Some v) γ.kept }) (p + 4 * k + 4 * length (checked d b repair))) d b v repair one two
    (covered_at words p code k γ placed still windows)
    (guard_written γ d Sure (Some v) (Has Sure v) q (q + 4 * length (checked d b repair)) (q + 4 * length (checked d b repair)) (says_again (Has Sure v)) refl)
    (back (p + 4 * k)))
    (λ calm. calm) line

-- one stretch after another
arrives_then : (words : List ℕ) (listed : ℕ → ℕ → Type 0) (d e : Assertion) (m n : ℕ) (s : MachineState) (f : Option Flip) → Arrives words listed d m s f → Moves words listed d n e → Arrives words listed e (m + n) s f
arrives_then words listed d e m n s f a two =
    let b : Arrives words listed e n a.state a.flip = two a.state a.flip a.good in
    let few : a.steps + b.steps ≤ m + n = omega (arith, a.few, b.few) in
    record {
      steps = a.steps + b.steps;
      state = b.state;
      flip = b.flip;
      few = few;
      good = b.good;
      goes = λ k.
          let whole : a.steps + b.steps + k ≡ a.steps + (b.steps + k) = omega arith in
          ap (λ n. run n s f) whole ∙ a.goes (b.steps + k) ∙ ap (more a.steps) (b.goes k) ∙ more-more a.steps b.steps (run k b.state b.flip);
    }

-- a branch on two registers of which nothing need be known
pub branch_moves : (words : List ℕ) (listed : ℕ → ℕ → Type 0) (c e : Assertion) (d b o n : ℕ) → Stands words c.pc (BEQ d b (pos o)) → c.pc + o < 2 ^ 64 → c.pc + 4 < 2 ^ 64 → Covered listed c →
    Moves words listed (record c { pc = c.pc + o }) n e → Moves words listed (record c { pc = c.pc + 4 }) n e → Moves words listed c (1 + n) e
branch_moves words listed c e d b o n beq room room4 covered taken passed s f good = by_ready (ready words listed c s f covered good)
  where
    arrives : (r : Ready words listed c s f) (p : ℕ) → step r.now ≡ Continues (jump r.now p) → Arrives words listed (record c { pc = p }) 1 s f
    arrives r p goes =
        record {
          steps = 1;
          state = jump r.now p;
          flip = r.rest;
          few = omega arith;
          good = record { damage = r.damage; meets = meets_jump words c p r.damage r.now r.meets; pending = r.pending (jump r.now p) goes };
          goes = λ k.
              let first : 1 + k ≡ suc k = omega arith in
              ap (λ n. run n s f) first ∙ r.goes k ∙ ap (λ (x : StepResult). after x c.out (λ t. run k t r.rest)) goes;
        }

    by_ready : Ready words listed c s f → Arrives words listed e (1 + n) s f
    by_ready r = elim (decided (register r.now d) (register r.now b)) [ inl same ↦ goes_there r same | inr other ↦ goes_on r other ]
      where
        goes_there : (r : Ready words listed c s f) → register r.now d ≡ register r.now b → Arrives words listed e (1 + n) s f
        goes_there r same =
            let test : (register r.now d == register r.now b) ≡ true = grind (arith, nat_tests) in
            let pc : r.now.pc ≡ c.pc = r.meets.pc in
            let there : plus64 r.now.pc o ≡ c.pc + o = omega arith in
            arrives_then words listed (record c { pc = c.pc + o }) e 1 n s f
            (arrives r (c.pc + o)
            (step_here words c r.damage r.now (BEQ d b (pos o)) r.meets beq ∙ act-BEQ d b (pos o) r.now ∙ ap (λ q. Continues (branched q (pos o) r.now)) test ∙ ap (λ q. Continues (jump r.now q)) there))
            taken

        goes_on : (r : Ready words listed c s f) → (register r.now d ≡ register r.now b → ⊥) → Arrives words listed e (1 + n) s f
        goes_on r other =
            let test : (register r.now d == register r.now b) ≡ false = grind (arith, nat_tests) in
            let pc : r.now.pc ≡ c.pc = r.meets.pc in
            let there : plus64 r.now.pc 4 ≡ c.pc + 4 = omega arith in
            arrives_then words listed (record c { pc = c.pc + 4 }) e 1 n s f
            (arrives r (c.pc + 4)
            (step_here words c r.damage r.now (BEQ d b (pos o)) r.meets beq ∙ act-BEQ d b (pos o) r.now ∙ ap (λ q. Continues (branched q (pos o) r.now)) test ∙ ap (λ q. Continues (jump r.now q)) there))
            passed

-- a check of registers of which nothing is known: whichever way it goes, nothing is known of the first
unknown_checked : (words : List ℕ) (c : Assertion) (d b t : ℕ) → 0 < d → Covered (Excepted WindowPoints words) c → Covered (Excepted WindowPoints words) (record c { pc = c.pc + 4 }) →
    Carries words (Excepted WindowPoints words) (check_piece d b t) c (after_write c d Free (c.pc + 8))
unknown_checked words c d b t nonzero covered covered4 = record { moves = whole; ends = refl }
  where
    e : Assertion
    e = after_write c d Free (c.pc + 8)

    there : Assertion
    there = record c { pc = c.pc + 8 }

    forgotten : KnowsLess (record c { pc = c.pc + 8 }) (after_write c d Free (c.pc + 8))
    forgotten = record { pc = refl; regs = λ r. forgets c.regs d r; slots = λ k damage x h. h; bytes = λ o x h. h; size = refl; input = refl; out = refl }

    whole : IsPlaced words c.pc (check_piece d b t) → Moves words (Excepted WindowPoints words) c 2 e
    whole placed =
        let next : Assertion = record c { pc = c.pc + 4 } in
        let at : c.pc + 8 ≡ c.pc + 4 + 4 = omega arith in
        let room : c.pc + 4 + 4 * 1 ≤ data_base = omega (arith, placed.room) in
        let copy = carries_less (knows_same next) (copy_carries words (Excepted WindowPoints words) next d t nonzero covered4)
        (knows_regs c (c.pc + 4 + 4) (c.pc + 8) (with_register c.regs d (c.regs t)) (with_register c.regs d Free) at (written_says c.regs c.regs d (c.regs t) Free (says_free (c.regs t)) (λ r ne. says_again (c.regs r)))) in
        branch_moves words (Excepted WindowPoints words) c e d b 8 1 placed.stands.0 (omega (arith, placed.room)) (omega (arith, placed.room)) covered
        (moves_within words (Excepted WindowPoints words) there e 0 1 (omega arith)
        (moves_weaker words (Excepted WindowPoints words) there there e 0 (λ damage s. meets_less words there e damage s forgotten) (moves_none words (Excepted WindowPoints words) there)))
        (copy.moves (record { stands = placed.stands.1; room = room; short = placed.short }))

-- a check of three copies of a value that may not be known. Where it isn't, the check goes either way
pub any_checked : (words : List ℕ) (c : Assertion) (d b t : ℕ) (o : Option ℕ) → c.regs d ≡ version One o → c.regs b ≡ version Two o → c.regs t ≡ version Three o → 0 < d → Covered (Excepted WindowPoints words) c →
    Covered (Excepted WindowPoints words) (record c { pc = c.pc + 4 }) → Carries words (Excepted WindowPoints words) (check_piece d b t) c (after_write c d (version Sure o) (c.pc + 8))
any_checked words c d b t (Some v) one two three nonzero covered covered4 = copy_repairs words c d b t v c.pc (c.pc + 8) one two three nonzero refl refl covered
any_checked words c d b t None one two three nonzero covered covered4 = unknown_checked words c d b t nonzero covered covered4

pub line_check_any : {words : List ℕ} {code : List Form} {start γ : Guard} {k : ℕ} (d b t : ℕ) (o : Option ℕ) → take 2 (drop k code) ≡ check_piece d b t → over γ.kept γ.around.regs d ≡ version One o → over γ.kept γ.around.regs b ≡ version Two o →
    over γ.kept γ.around.regs t ≡ version Three o → 0 < d → all_in_windows code k (sures_of γ.kept) ≡ true → all_in_windows code (k + 1) (sures_of γ.kept) ≡ true → Line words code start k γ →
    Line words code start (k + 2) (record γ { kept = put_in d Sure o γ.kept })
line_check_any {words = words} {code = code} {γ = γ} {k = k} d b t o e one two three nonzero windows windows1 line =
    line_piece (check_piece d b t) (record γ { kept = put_in d Sure o γ.kept }) (omega arith) e
    (λ still p placed.
    let q = p + 4 * k in
    let next : p + 4 * (k + 1) ≡ p + 4 * k + 4 = omega arith in
    let P : ℕ → Type 0 = λ q. Covered (Excepted WindowPoints words) (guard_at γ q) in
    carries_less (knows_same (guard_at γ q))
    (any_checked words (guard_at γ q) d b t o one two three nonzero (covered_at words p code k γ placed still windows) (subst P next (covered_at words p code (k + 1) γ placed still windows1)))
    (guard_written γ d Sure o (version Sure o) q (q + 8) (q + 8) (says_again (version Sure o)) refl))
    (λ calm. calm) line
