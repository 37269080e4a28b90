-- The right value of three copies, of which at most one is wrong, comes into a fourth register: `addi d,a,0`, `beq d,b,8`, `addi d,t,0`.
use Rattle.std.proofs.Common.{◌≡◌, ◌≢◌, ℕ, suc, ◌+◌, ◌<◌, ◌^◌, ◌==◌, ◌⊎◌, inl, inr, Bool, true, false, List, Option, None, refl, sym, ◌∙◌, ap, subst, arith}
use Rattle.std.specs.Prelude.{pos}
use Rattle.std.proofs.lemmas.Bool.Decides.{nat_tests}
use Rattle.rv_inst.specs.declared.instruction.Form.TheVariants.{ADDI, BEQ}
use Rattle.rv_inst.specs.Word.{Fits}
use Rattle.rv_model.specs.declared.Flip.{Flip}
use Rattle.rv_model.specs.State.{MachineState, register, set_register, plus64, jump, next}
use Rattle.rv_model.specs.Step.{StepResult, Continues, branched, put, step}
use Rattle.rv_model.specs.Run.{more, after, run}
use Rattle.rv_model.specs.Text.{Stands, StandsAll}
use Rattle.rv_model.proofs.ActLemmas.{act-ADDI, act-BEQ}
use Rattle.rv_model.proofs.RunLemmas.{run-continues, more-more}
use Rattle.rv_model.proofs.TextLemmas.{step-stands}
use Rattle.rv_flips.specs.Cells.{Damage, Nothing, First, Second, Third, Sure, One, Two, Three, Cell, Has, Holds}
use Rattle.rv_flips.specs.Assertion.{Assertion, Meets, KnowsLess, with_register, after_write}
use Rattle.rv_flips.specs.Moves.{Covered, Ready, Arrives, Moves}
use Rattle.rv_flips.proofs.CellLemmas.{right_kept, says_same, with_register-same, with_register-other, with_register-twice}
use Rattle.rv_flips.proofs.FlipLemmas.{ready}
use Rattle.rv_flips.proofs.MoveLemmas.{moves_then, moves_weaker, settled}
use Rattle.rv_flips.proofs.WordLaws.{meets_put, meets_less, copy_moves, meets_cell}
use Rattle.rv_flips.specs.Known.{Sures, AllListed}
use Rattle.rv_flips.specs.Fetching.{fetch_words, IsTriple}
use Rattle.rv_flips.proofs.KnownRegisters.{covered, sures_other}

-- the state that goes on at another address
pub meets_jump : (words : List ℕ) (c : Assertion) (p : ℕ) (damage : Damage) (s : MachineState) → Meets words c damage s → Meets words (record c { pc = p }) damage (jump s p)
meets_jump words c p damage s meets =
    record { data_bytes = meets.data_bytes; pc = refl; regs = meets.regs; wide = meets.wide; count = meets.count; segments = meets.segments; size = meets.size; small = meets.small; slots = meets.slots; bytes = meets.bytes; input = meets.input; out = meets.out }

-- where a first and a second copy are equal, the first is right
pub agree : (v x y : ℕ) (damage : Damage) → Holds (Has One v) damage x → Holds (Has Two v) damage y → x ≡ y → Holds (Has Sure v) damage x
agree v x y First h k e = e ∙ k
agree v x y Second h k e = h
agree v x y _ h k e = h

-- where they differ, something is damaged, and a third copy is right
differ : (v x y z : ℕ) (damage : Damage) → Holds (Has One v) damage x → Holds (Has Two v) damage y → (x ≡ y → ⊥) → Holds (Has Three v) damage z → (z ≡ v) × (damage ≡ Nothing → ⊥)
differ v x y z First h k ne l = (l, λ e. cc)
differ v x y z Second h k ne l = (l, λ e. cc)
differ v x y z Third h k ne l = absurd (ne (h ∙ sym k))
differ v x y z Nothing h k ne l = absurd (ne (h ∙ sym k))
differ v x y z _ h k ne l = absurd (ne (h ∙ sym k))

-- the branch is taken: the two copies are equal
taken : (words : List ℕ) (listed : ℕ → ℕ → Type 0) (c : Assertion) (d b t v : ℕ) (s : MachineState) (f : Option Flip) → c.regs d ≡ Has One v → c.regs b ≡ Has Two v → c.pc + 8 < 2 ^ 64 →
    Stands words c.pc (BEQ d b (pos 8)) → (r : Ready words listed c s f) → register r.now d ≡ register r.now b → Arrives words listed (after_write c d (Has Sure v) (c.pc + 8)) 2 s f
taken words listed c d b t v s f one two room beq r same =
    let now = r.now in
    let P : Cell → Type 0 = λ cell. Holds cell r.damage (register r.now d) in
    let Q : Cell → Type 0 = λ cell. Holds cell r.damage (register r.now b) in
    let right : Holds (Has Sure v) r.damage (register r.now d) = agree v (register r.now d) (register r.now b) r.damage (subst P one (r.meets.regs d)) (subst Q two (r.meets.regs b)) same in
    let test : (register r.now d == register r.now b) ≡ true = grind (arith, nat_tests) in
    let pc : r.now.pc ≡ c.pc = r.meets.pc in
    let there : plus64 r.now.pc 8 ≡ c.pc + 8 = omega arith in
    let goes : step r.now ≡ Continues (jump r.now (c.pc + 8)) =
    step-stands words r.meets.data_bytes r.now c.pc (BEQ d b (pos 8)) r.meets.pc r.meets.segments beq ∙ act-BEQ d b (pos 8) r.now
    ∙ ap (λ q. Continues (branched q (pos 8) r.now)) test ∙ ap (λ q. Continues (jump r.now q)) there in
    record {
      steps = 1;
      state = jump r.now (c.pc + 8);
      flip = r.rest;
      few = omega arith;
      good = record {
        damage = r.damage;
        meets = meets_jump words (record c { regs = with_register c.regs d (Has Sure v) }) (c.pc + 8) r.damage r.now (meets_cell words c d (Has Sure v) r.damage r.now r.meets right);
        pending = r.pending (jump r.now (c.pc + 8)) goes;
      };
      goes = λ k.
          let first : 1 + k ≡ suc k = omega arith in
          ap (λ n. run n s f) first ∙ r.goes k ∙ ap (λ (x : StepResult). after x c.out (λ t. run k t r.rest)) goes;
    }

-- the branch isn't taken: one of the two copies is wrong, so no flip is to come, and the third is right
not_taken : (words : List ℕ) (listed : ℕ → ℕ → Type 0) (c : Assertion) (d b t v : ℕ) (s : MachineState) (f : Option Flip) → c.regs d ≡ Has One v → c.regs b ≡ Has Two v → c.regs t ≡ Has Three v → 0 < d → c.pc + 8 < 2 ^ 64 →
    Stands words c.pc (BEQ d b (pos 8)) → Stands words (c.pc + 4) (ADDI d t (pos 0)) → (r : Ready words listed c s f) → (register r.now d ≡ register r.now b → ⊥) → Arrives words listed (after_write c d (Has Sure v) (c.pc + 8)) 2 s f
not_taken words listed c d b t v s f one two three nonzero room beq addi r other =
    let P : Cell → Type 0 = λ cell. Holds cell r.damage (register r.now d) in
    let Q : Cell → Type 0 = λ cell. Holds cell r.damage (register r.now b) in
    let R : Cell → Type 0 = λ cell. Holds cell r.damage (register r.now t) in
    let both = differ v (register r.now d) (register r.now b) (register r.now t) r.damage (subst P one (r.meets.regs d)) (subst Q two (r.meets.regs b)) other (subst R three (r.meets.regs t)) in
    let test : (register r.now d == register r.now b) ≡ false = grind (arith, nat_tests) in
    let pc : r.now.pc ≡ c.pc = r.meets.pc in
    let there : plus64 r.now.pc 4 ≡ c.pc + 4 = omega arith in
    let first_goes : step r.now ≡ Continues (jump r.now (c.pc + 4)) =
    step-stands words r.meets.data_bytes r.now c.pc (BEQ d b (pos 8)) r.meets.pc r.meets.segments beq ∙ act-BEQ d b (pos 8) r.now
    ∙ ap (λ q. Continues (branched q (pos 8) r.now)) test ∙ ap (λ q. Continues (jump r.now q)) there in
    let none : r.rest ≡ None = settled listed r.damage (jump r.now (c.pc + 4)) r.rest both.1 (r.pending (jump r.now (c.pc + 4)) first_goes) in
    let meets1 = meets_jump words c (c.pc + 4) r.damage r.now r.meets in
    let wide : register r.now t < 2 ^ 64 = r.meets.wide t in
    let value : plus64 (register r.now t) 0 ≡ register r.now t = omega arith in
    let second_goes : step (jump r.now (c.pc + 4)) ≡ Continues (next (set_register (jump r.now (c.pc + 4)) d (register r.now t))) =
    step-stands words r.meets.data_bytes (jump r.now (c.pc + 4)) (c.pc + 4) (ADDI d t (pos 0)) refl r.meets.segments addi ∙ act-ADDI d t (pos 0) (jump r.now (c.pc + 4))
    ∙ ap (λ x. put d x (jump r.now (c.pc + 4))) value in
    let fits : Fits (ADDI d t (pos 0)) = addi.is_word.0 in
    let at : plus64 (c.pc + 4) 4 ≡ c.pc + 8 = omega arith in
    record {
      steps = 2;
      state = next (set_register (jump r.now (c.pc + 4)) d (register r.now t));
      flip = None;
      few = omega arith;
      good = record {
        damage = r.damage;
        meets = meets_put words (record c { pc = c.pc + 4 }) r.damage (jump r.now (c.pc + 4)) d (register r.now t) (c.pc + 8) (Has Sure v) meets1 nonzero fits.0 wide
            (right_kept Sure v (register r.now t) r.damage both.0) at;
        pending = tt;
      };
      goes = λ k.
          let two : 2 + k ≡ suc (suc k) = omega arith in
          ap (λ n. run n s f) two ∙ r.goes (suc k) ∙ ap (λ (x : StepResult). after x c.out (λ t. run (suc k) t r.rest)) first_goes
          ∙ ap (λ (g : Option Flip). more 1 (run (suc k) (jump r.now (c.pc + 4)) g)) none
          ∙ ap (more 1) (run-continues k (jump r.now (c.pc + 4)) (next (set_register (jump r.now (c.pc + 4)) d (register r.now t))) None second_goes)
          ∙ more-more 1 1 (run k (next (set_register (jump r.now (c.pc + 4)) d (register r.now t))) None);
    }

-- two numbers are equal or not
pub decided : (x y : ℕ) → (x ≡ y) ⊎ (x ≡ y → ⊥)
decided x y = by_test (x == y) refl
  where
    by_test : (b : Bool) → (x == y) ≡ b → (x ≡ y) ⊎ (x ≡ y → ⊥)
    by_test true e = inl (grind (arith, nat_tests))
    by_test false e = inr (grind (arith, nat_tests))

-- the branch, and where it isn't taken the word after it
pub branch_moves : (words : List ℕ) (listed : ℕ → ℕ → Type 0) (c : Assertion) (d b t v : ℕ) → c.regs d ≡ Has One v → c.regs b ≡ Has Two v → c.regs t ≡ Has Three v → 0 < d → c.pc + 8 < 2 ^ 64 →
    Stands words c.pc (BEQ d b (pos 8)) → Stands words (c.pc + 4) (ADDI d t (pos 0)) → Covered listed c → Moves words listed c 2 (after_write c d (Has Sure v) (c.pc + 8))
branch_moves words listed c d b t v one two three nonzero room beq addi covered s f good = by_ready (ready words listed c s f covered good)
  where
    by_ready : Ready words listed c s f → Arrives words listed (after_write c d (Has Sure v) (c.pc + 8)) 2 s f
    by_ready r =
        elim (decided (register r.now d) (register r.now b)) [ inl same ↦ taken words listed c d b t v s f one two room beq r same | inr other ↦ not_taken words listed c d b t v s f one two three nonzero room beq addi r other ]

tags_differ : (v w : ℕ) → Has One v ≡ Has Sure w → ⊥
tags_differ v w e = cc

-- of a register that is written twice, the second cell is known
written_twice : (c : Assertion) (d v p : ℕ) → KnowsLess (after_write (after_write c d (Has One v) (c.pc + 4)) d (Has Sure v) p) (after_write c d (Has Sure v) p)
written_twice c d v p =
    record {
      pc = refl;
      regs = λ q. says_same (with_register (with_register c.regs d (Has One v)) d (Has Sure v) q) (with_register c.regs d (Has Sure v) q) (with_register-twice c.regs d q (Has One v) (Has Sure v));
      slots = λ k damage x h. h;
      bytes = λ o x h. h;
      size = refl;
      input = refl;
      out = refl;
    }

-- the three words: the right value comes into d, whatever one flip outside the list does
pub fetch_moves : (words : List ℕ) (listed : ℕ → ℕ → Type 0) (c : Assertion) (d a b t v : ℕ) (rs : List ℕ) → IsTriple c.regs a b t v → 0 < d → d ≢ b → d ≢ t → c.pc + 12 < 2 ^ 64 →
    StandsAll words c.pc (fetch_words d a b t) → Sures c.regs rs → AllListed listed c.pc rs → AllListed listed (c.pc + 4) rs → Moves words listed c 3 (after_write c d (Has Sure v) (c.pc + 4 + 8))
fetch_moves words listed c d a b t v rs triple nonzero not_b not_t room stands sures l1 l2 =
    let d1 = after_write c d (Has One v) (c.pc + 4) in
    let at1 : plus64 c.pc 4 ≡ c.pc + 4 = omega arith in
    let one : with_register c.regs d (Has One v) d ≡ Has One v = with_register-same c.regs d (Has One v) in
    let two : with_register c.regs d (Has One v) b ≡ Has Two v = with_register-other c.regs d b (Has One v) (λ e. not_b (sym e)) ∙ triple.two in
    let three : with_register c.regs d (Has One v) t ≡ Has Three v = with_register-other c.regs d t (Has One v) (λ e. not_t (sym e)) ∙ triple.three in
    let not_sure : (w : ℕ) → Has One v ≡ Has Sure w → ⊥ = λ w e. tags_differ v w e in
    let sures1 = sures_other c.regs d (Has One v) rs not_sure sures in
    let copied = copy_moves words listed c d a (c.pc + 4) (Has One v) triple.one nonzero at1 stands.0 (covered listed c rs sures l1) in
    let branched = branch_moves words listed d1 d b t v one two three nonzero (omega arith) stands.1.0 stands.1.1.0 (covered listed d1 rs sures1 l2) in
    moves_then words listed c d1 (after_write c d (Has Sure v) (c.pc + 4 + 8)) 1 2 copied (moves_weaker words listed d1 (after_write d1 d (Has Sure v) (c.pc + 4 + 8)) (after_write c d (Has Sure v) (c.pc + 4 + 8)) 2 (λ damage s. meets_less words (after_write d1 d (Has Sure v) (c.pc + 4 + 8)) (after_write c d (Has Sure v) (c.pc + 4 + 8)) damage s (written_twice c d v (c.pc + 4 + 8))) branched)
