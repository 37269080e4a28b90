-- A check inside of a group: a branch on a first and a second copy over words that repair.
use Rattle.std.proofs.Common.{◌≡◌, ℕ, suc, ◌+◌, ◌*◌, ◌<◌, ◌≤◌, ◌^◌, ◌==◌, ◌⊎◌, inl, inr, true, false, List, length, Option, Some, None, IfSome, refl, sym, ◌∙◌, ap, subst, arith}
use Rattle.std.specs.Prelude.{pos}
use Rattle.std.proofs.lemmas.Bool.Decides.{nat_tests}
use Rattle.rv_inst.specs.declared.instruction.Form.{Form}
use Rattle.rv_inst.specs.declared.instruction.Form.TheVariants.{BEQ}
use Rattle.rv_model.specs.declared.Flip.{Flip}
use Rattle.rv_model.specs.State.{MachineState, register, plus64, jump}
use Rattle.rv_model.specs.Step.{StepResult, Continues, branched, step}
use Rattle.rv_model.specs.Run.{more, after, run, pc_at}
use Rattle.rv_model.specs.Text.{data_base, Stands}
use Rattle.rv_model.proofs.ActLemmas.{act-BEQ}
use Rattle.rv_model.proofs.RunLemmas.{more-more}
use Rattle.rv_flips.specs.Cells.{Damage, Nothing, First, Second, Third, Sure, One, Two, Three, Cell, Free, Has, Holds}
use Rattle.rv_flips.specs.Assertion.{Assertion, Meets, KnowsLess, number_at, with_register, after_write}
use Rattle.rv_flips.specs.Moves.{Covered, Pending, Ready, Arrives, Moves}
use Rattle.rv_flips.proofs.FlipLemmas.{ready}
use Rattle.rv_flips.proofs.MoveLemmas.{moves_within, settled}
use Rattle.rv_flips.proofs.Fetch.{agree, decided, meets_jump}
use Rattle.rv_flips.proofs.WordLaws.{meets_less, meets_cell, step_here}
use Rattle.flip_words.specs.Placed.{AllPoints, Excepted, Carries}
use Rattle.flip_words.specs.Joining.{promoted_cell, promoted, checked}

-- first copies or second copies are what is damaged
abbrev LosesOneOrTwo : Damage → Type 0
LosesOneOrTwo damage = (damage ≡ First) ⊎ (damage ≡ Second)

-- where a first and a second copy differ, one of them is lost
differ : (v x y : ℕ) (damage : Damage) → Holds (Has One v) damage x → Holds (Has Two v) damage y → (x ≡ y → ⊥) → LosesOneOrTwo damage
differ v x y First h k ne = inl refl
differ v x y Second h k ne = inr refl
differ v x y Third h k ne = absurd (ne (h ∙ sym k))
differ v x y Nothing h k ne = absurd (ne (h ∙ sym k))
differ v x y _ h k ne = absurd (ne (h ∙ sym k))

-- then third copies are right
promote_first : (cell : Cell) (x : ℕ) → Holds cell First x → Holds (promoted_cell cell) First x
promote_first Free x h = h
promote_first (Has Three v) x h = h
promote_first (Has _ v) x h = h

promote_second : (cell : Cell) (x : ℕ) → Holds cell Second x → Holds (promoted_cell cell) Second x
promote_second Free x h = h
promote_second (Has Three v) x h = h
promote_second (Has _ v) x h = h

promote_holds : (cell : Cell) (x : ℕ) (damage : Damage) → LosesOneOrTwo damage → Holds cell damage x → Holds (promoted_cell cell) damage x
promote_holds cell x damage (inl e) h =
    let P : Damage → Type 0 = λ d. Holds (promoted_cell cell) d x in
    let Q : Damage → Type 0 = λ d. Holds cell d x in
    subst P (sym e) (promote_first cell x (subst Q e h))
promote_holds cell x damage (inr e) h =
    let P : Damage → Type 0 = λ d. Holds (promoted_cell cell) d x in
    let Q : Damage → Type 0 = λ d. Holds cell d x in
    subst P (sym e) (promote_second cell x (subst Q e h))

meets_promoted : (words : List ℕ) (c : Assertion) (p : ℕ) (damage : Damage) (s : MachineState) → LosesOneOrTwo damage → Meets words c damage s → Meets words (promoted c p) damage (jump s p)
meets_promoted words c p damage s lost meets =
    record {
      data_bytes = meets.data_bytes;
      pc = refl;
      regs = λ q. promote_holds (c.regs q) (register s q) damage lost (meets.regs q);
      wide = meets.wide;
      count = meets.count;
      segments = meets.segments;
      size = meets.size;
      small = meets.small;
      slots = λ k. promote_holds (c.slots k) (number_at (8 * k) meets.data_bytes) damage lost (meets.slots k);
      bytes = meets.bytes;
      input = meets.input;
      out = meets.out;
    }

was_damaged : (damage : Damage) → LosesOneOrTwo damage → damage ≡ Nothing → ⊥
was_damaged damage (inl e) n = cc
was_damaged damage (inr e) n = cc

-- a flip that falls outside the list of all points falls outside each list
outside_any : (words : List ℕ) (listed : ℕ → ℕ → Type 0) (r : ℕ) (o : Option ℕ) → IfSome o (λ p. Excepted AllPoints words p r → ⊥) → IfSome o (λ p. listed p r → ⊥)
outside_any words listed r None h = h
outside_any words listed r (Some p) h = absurd (h tt)

pending_any : (words : List ℕ) (listed : ℕ → ℕ → Type 0) (damage : Damage) (s : MachineState) (f : Option Flip) → Pending (Excepted AllPoints words) damage s f → Pending listed damage s f
pending_any words listed damage s None h = tt
pending_any words listed damage s (Some f) h = record { undamaged = h.undamaged; fits = h.fits; outside = outside_any words listed f.reg (pc_at f.at s) h.outside }

-- the branch is taken: the two copies are equal, and the first is right
taken : (words : List ℕ) (listed : ℕ → ℕ → Type 0) (c e : Assertion) (d b v o n : ℕ) (s : MachineState) (f : Option Flip) → c.regs d ≡ Has One v → c.regs b ≡ Has Two v → c.pc + o < 2 ^ 64 →
    Stands words c.pc (BEQ d b (pos o)) → KnowsLess (after_write c d (Has Sure v) (c.pc + o)) e → (r : Ready words listed c s f) → register r.now d ≡ register r.now b → Arrives words listed e (1 + n) s f
taken words listed c e d b v o n s f one two room beq less r same =
    let P : Cell → Type 0 = λ cell. Holds cell r.damage (register r.now d) in
    let Q : Cell → Type 0 = λ cell. Holds cell r.damage (register r.now b) in
    let right : Holds (Has Sure v) r.damage (register r.now d) = agree v (register r.now d) (register r.now b) r.damage (subst P one (r.meets.regs d)) (subst Q two (r.meets.regs b)) same in
    let test : (register r.now d == register r.now b) ≡ true = grind (arith, nat_tests) in
    let pc : r.now.pc ≡ c.pc = r.meets.pc in
    let there : plus64 r.now.pc o ≡ c.pc + o = omega arith in
    let goes : step r.now ≡ Continues (jump r.now (c.pc + o)) =
    step_here words c r.damage r.now (BEQ d b (pos o)) r.meets beq ∙ act-BEQ d b (pos o) r.now
    ∙ ap (λ q. Continues (branched q (pos o) r.now)) test ∙ ap (λ q. Continues (jump r.now q)) there in
    record {
      steps = 1;
      state = jump r.now (c.pc + o);
      flip = r.rest;
      few = omega arith;
      good = record {
        damage = r.damage;
        meets = meets_less words (after_write c d (Has Sure v) (c.pc + o)) e r.damage (jump r.now (c.pc + o)) less
            (meets_jump words (record c { regs = with_register c.regs d (Has Sure v) }) (c.pc + o) r.damage r.now (meets_cell words c d (Has Sure v) r.damage r.now r.meets right));
        pending = r.pending (jump r.now (c.pc + o)) goes;
      };
      goes = λ k.
          let first : 1 + k ≡ suc k = omega arith in
          ap (λ n. run n s f) first ∙ r.goes k ∙ ap (λ (x : StepResult). after x c.out (λ t. run k t r.rest)) goes;
    }

-- it isn't taken: one of the copies is lost, so no flip is to come, and the repair runs with third copies right
not_taken : (words : List ℕ) (listed : ℕ → ℕ → Type 0) (c e : Assertion) (d b v o n : ℕ) (s : MachineState) (f : Option Flip) → c.regs d ≡ Has One v → c.regs b ≡ Has Two v → c.pc + 4 < 2 ^ 64 →
    Stands words c.pc (BEQ d b (pos o)) → Moves words (Excepted AllPoints words) (promoted c (c.pc + 4)) n e → (r : Ready words listed c s f) → (register r.now d ≡ register r.now b → ⊥) → Arrives words listed e (1 + n) s f
not_taken words listed c e d b v o n s f one two room beq repair r other =
    let P : Cell → Type 0 = λ cell. Holds cell r.damage (register r.now d) in
    let Q : Cell → Type 0 = λ cell. Holds cell r.damage (register r.now b) in
    let lost : LosesOneOrTwo r.damage = differ v (register r.now d) (register r.now b) r.damage (subst P one (r.meets.regs d)) (subst Q two (r.meets.regs b)) other in
    let test : (register r.now d == register r.now b) ≡ false = grind (arith, nat_tests) in
    let pc : r.now.pc ≡ c.pc = r.meets.pc in
    let there : plus64 r.now.pc 4 ≡ c.pc + 4 = omega arith in
    let goes : step r.now ≡ Continues (jump r.now (c.pc + 4)) =
    step_here words c r.damage r.now (BEQ d b (pos o)) r.meets beq ∙ act-BEQ d b (pos o) r.now
    ∙ ap (λ q. Continues (branched q (pos o) r.now)) test ∙ ap (λ q. Continues (jump r.now q)) there in
    let none : r.rest ≡ None = settled listed r.damage (jump r.now (c.pc + 4)) r.rest (was_damaged r.damage lost) (r.pending (jump r.now (c.pc + 4)) goes) in
    let a : Arrives words (Excepted AllPoints words) e n (jump r.now (c.pc + 4)) None =
    repair (jump r.now (c.pc + 4)) None (record { damage = r.damage; meets = meets_promoted words c (c.pc + 4) r.damage r.now lost r.meets; pending = tt }) in
    let few : 1 + a.steps ≤ 1 + n = omega (arith, a.few) in
    record {
      steps = 1 + a.steps;
      state = a.state;
      flip = a.flip;
      few = few;
      good = record { damage = a.good.damage; meets = a.good.meets; pending = pending_any words listed a.good.damage a.state a.flip a.good.pending };
      goes = λ k.
          let first : 1 + a.steps + k ≡ suc (a.steps + k) = omega arith in
          ap (λ n. run n s f) first ∙ r.goes (a.steps + k) ∙ ap (λ (x : StepResult). after x c.out (λ t. run (a.steps + k) t r.rest)) goes
          ∙ ap (λ (g : Option Flip). more 1 (run (a.steps + k) (jump r.now (c.pc + 4)) g)) none
          ∙ ap (more 1) (a.goes k)
          ∙ more-more 1 a.steps (run k a.state a.flip);
    }

-- the check and its repair
pub check_moves : (words : List ℕ) (listed : ℕ → ℕ → Type 0) (c e : Assertion) (d b v o n : ℕ) → c.regs d ≡ Has One v → c.regs b ≡ Has Two v → c.pc + o < 2 ^ 64 → c.pc + 4 < 2 ^ 64 → Stands words c.pc (BEQ d b (pos o)) → Covered listed c →
    KnowsLess (after_write c d (Has Sure v) (c.pc + o)) e → Moves words (Excepted AllPoints words) (promoted c (c.pc + 4)) n e → Moves words listed c (1 + n) e
check_moves words listed c e d b v o n one two room room4 beq covered less repair s f good = by_ready (ready words listed c s f covered good)
  where
    by_ready : Ready words listed c s f → Arrives words listed e (1 + n) s f
    by_ready r =
        elim (decided (register r.now d) (register r.now b)) [ inl same ↦ taken words listed c e d b v o n s f one two room beq less r same | inr other ↦ not_taken words listed c e d b v o n s f one two room4 beq repair r other ]

pub check_carries : (words : List ℕ) (listed : ℕ → ℕ → Type 0) (c e : Assertion) (d b v : ℕ) (repair : List Form) → c.regs d ≡ Has One v → c.regs b ≡ Has Two v → Covered listed c →
    KnowsLess (after_write c d (Has Sure v) (c.pc + 4 * length (checked d b repair))) e → Carries words (Excepted AllPoints words) repair (promoted c (c.pc + 4)) e → Carries words listed (checked d b repair) c e
check_carries words listed c e d b v repair one two covered less back =
    let o = 4 * length repair + 4 in
    let there : c.pc + 4 * suc (length repair) ≡ c.pc + (4 * length repair + 4) = omega arith in
    let P : ℕ → Type 0 = λ p. KnowsLess (after_write c d (Has Sure v) p) e in
    record {
      moves = λ placed.
          let room : c.pc + (4 * length repair + 4) < 2 ^ 64 = omega (arith, placed.room) in
          let room4 : c.pc + 4 < 2 ^ 64 = omega arith in
          let few : 1 + length repair ≤ suc (length repair) = omega arith in
          let back_room : c.pc + 4 + 4 * length repair ≤ data_base = omega (arith, placed.room) in
          moves_within words listed c e (1 + length repair) (suc (length repair)) few
          (check_moves words listed c e d b v (4 * length repair + 4) (length repair) one two room room4 placed.stands.0 covered (subst P there less)
          (back.moves (record { stands = placed.stands.1; room = back_room; short = placed.short })));
      ends = less.pc;
    }
