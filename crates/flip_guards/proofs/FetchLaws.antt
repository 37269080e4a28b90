-- Operands that are fetched.
use Rattle.std.proofs.Common.{◌≡◌, ◌≢◌, ℕ, suc, ◌+◌, ◌*◌, ◌%◌, ◌<◌, ◌^◌, ◌==◌, Bool, true, false, cond, List, [], ◌∷◌, ◌++◌, length, Option, Some, None, refl, sym, ◌∙◌, ap, subst, arith, lit<, append_assoc, length-append, lit≤}
use Rattle.std.specs.Prelude.{pos, IsTrue, nat_lt, ◌&&◌, ◌||◌}
use Rattle.std.proofs.lemmas.Bool.{or_left}
use Rattle.std.proofs.lemmas.Bool.Decides.{nat_tests}
use Rattle.rv_inst.specs.declared.instruction.Form.{Form}
use Rattle.rv_inst.specs.declared.instruction.Form.TheVariants.{BEQ}
use Rattle.rv_inst.specs.Registers.{reads}
use Rattle.rv_inst.specs.Window.{IsWindowPoint, begins, may_use, is_operand_register, is_ecall, has_window}
use Rattle.rv_model.specs.Text.{text_base, Stands}
use Rattle.rv_flips.specs.Cells.{Tag, Sure, One, Two, Three, Cell, Free, Has, SaysLess}
use Rattle.rv_flips.specs.Assertion.{Assertion, KnowsLess, with_register, after_write}
use Rattle.rv_flips.specs.Known.{Sures}
use Rattle.rv_flips.specs.Moves.{Covered}
use Rattle.rv_flips.proofs.CellLemmas.{same_test, other_test, with_register-same, with_register-other, says_same, says_free}
use Rattle.rv_flips.proofs.KnownRegisters.{covered, sures_sure, sures_other}
use Rattle.flip_words.specs.Placed.{WindowPoints, AllPoints, Excepted, IsPlaced, Carries}
use Rattle.flip_words.specs.Joining.{promoted_cell, promoted, checked}
use Rattle.flip_words.proofs.CarryLemmas.{placed_back, joined, carries_less}
use Rattle.flip_words.proofs.LessLemmas.{says_again, says_then, knows_same, knows_regs, promoted_says, written_says}
use Rattle.flip_words.proofs.CheckLaw.{check_carries}
use Rattle.flip_words.proofs.Windows.{window_after}
use Rattle.flip_frames.specs.Views.{Stage, IsView, IsVersion, is_scratch, version, view_cell, at_address, no_values}
use Rattle.flip_frames.specs.Fetching.{Triple}
use Rattle.flip_frames.proofs.ViewLemmas.{scratch_above, view_cell-zero, view_cell-two, view_cell-three, view_cell-four, view_cell-scratch, sures_view, not_sure_version}
use Rattle.flip_versions.specs.Operations.{resting, AreSlots, HoldsVersions}
use Rattle.flip_guards.specs.Guards.{KeptRegister, Kept, over, guard_at, guarded}
use Rattle.flip_guards.specs.Slots.{IsFramed, used_up}
use Rattle.flip_guards.specs.Sources.{Part, part_words, made, Source, InSlot, InRegister, Constant, bring, IsPlace, Gives}
use Rattle.flip_guards.specs.Fetching.{Operand, in_slots, constant, GivesAll, IsGiven, bring_three, IsKeeping, brought, check_words, fetch_operand, fetched_operand, fetch_both, fetched_both, UsesBoth, guarded_constant}
use Rattle.flip_guards.proofs.Lines.{forgets, all_in_windows, sures_over, IsCalm, Line, line_start, line_forget, line_carries, line_front, covered_at}
use Rattle.flip_guards.proofs.LineWords.{line_check, line_check_any}
use Rattle.flip_guards.proofs.SlotWords.{used_regs, used-other}
use Rattle.flip_guards.proofs.SourceLaws.{making, parts_carry, source_carries}

pub triples_give : (g : Stage) (x : Triple) (o : Option ℕ) → AreSlots g x → HoldsVersions g x o → IsGiven g (in_slots x) o
triples_give g x o slots holds =
    record {
      one = (record { within = slots.one.within; small = slots.one.small }, holds.one);
      two = (record { within = slots.two.within; small = slots.two.small }, holds.two);
      three = (record { within = slots.three.within; small = slots.three.small }, holds.three);
    }

pub constants_give : (g : Stage) (parts : List Part) (v : ℕ) → made parts None ≡ Some v → IsGiven g (constant parts) (Some v)
constants_give g parts v e = record { one = e; two = e; three = e }

-- where nothing is known of x28 and x29 they may be used up
pub unused : (regs : ℕ → Cell) (q : ℕ) → regs 28 ≡ Free → regs 29 ≡ Free → SaysLess (used_regs regs q) (regs q)
unused regs q first second = each (q == 28) (q == 29) refl refl
  where
    each : (x y : Bool) → (q == 28) ≡ x → (q == 29) ≡ y → SaysLess (used_regs regs q) (regs q)
    each true y e f =
        let same : 28 ≡ q = grind (arith, nat_tests) in
        let P : ℕ → Type 0 = λ r. SaysLess (used_regs regs r) (regs r) in
        subst P same (rw first (says_free (used_regs regs 28)))
    each false true e f =
        let same : 29 ≡ q = grind (arith, nat_tests) in
        let P : ℕ → Type 0 = λ r. SaysLess (used_regs regs r) (regs r) in
        subst P same (rw second (says_free (used_regs regs 29)))
    each false false e f =
        let ne : q ≢ 28 = grind (arith, nat_tests) in
        let ne' : q ≢ 29 = grind (arith, nat_tests) in
        says_same (used_regs regs q) (regs q) (used-other regs q ne ne')

still_known : (c : Assertion) (d p : ℕ) (cell : Cell) → c.regs 28 ≡ Free → c.regs 29 ≡ Free → KnowsLess (after_write (used_up c p) d cell p) (after_write c d cell p)
still_known c d p cell first second =
    knows_regs c p p (with_register (used_regs c.regs) d cell) (with_register c.regs d cell) refl (written_says (used_regs c.regs) c.regs d cell cell (says_again cell) (λ k ne. unused c.regs k first second))

-- one version
comes : (words : List ℕ) (c : Assertion) (base d : ℕ) (s : Source) (tag : Tag) (o : Option ℕ) → IsFramed c base → c.regs 28 ≡ Free → c.regs 29 ≡ Free → 4 < d → IsVersion tag → Gives c base s tag o →
    Carries words (Excepted WindowPoints words) (bring d s) c (after_write c d (version tag o) (c.pc + 4 * length (bring d s)))
comes words c base d s tag o framed first second above is gives =
    carries_less (knows_same c) (source_carries words c base d s tag o framed above is gives) (still_known c d (c.pc + 4 * length (bring d s)) (version tag o) first second)

-- a frame is still one when a version was written above it
framed_after : (c : Assertion) (base d p : ℕ) (tag : Tag) (o : Option ℕ) → IsFramed c base → 4 < d → IsVersion tag → IsFramed (after_write c d (version tag o) p) base
framed_after c base d p tag o framed above is =
    record {
      zero = with_register-other c.regs d 0 (version tag o) (omega arith) ∙ framed.zero;
      one = with_register-other c.regs d 2 (version tag o) (omega arith) ∙ framed.one;
      two = with_register-other c.regs d 3 (version tag o) (omega arith) ∙ framed.two;
      three = with_register-other c.regs d 4 (version tag o) (omega arith) ∙ framed.three;
      sures = sures_other c.regs d (version tag o) [] (not_sure_version tag o is) framed.sures;
      size = framed.size;
      frame = framed.frame;
    }

-- a scratch register is no place of a version
not_place : (d r : ℕ) → is_scratch d ≡ true → IsPlace r → r ≢ d
not_place d r scratch place e = grind (arith, nat_tests, place.0, place.1)

-- a source gives what it gave when a scratch register was written
gives_after : (c : Assertion) (base d p : ℕ) (tag t : Tag) (o x : Option ℕ) (s : Source) → is_scratch d ≡ true → Gives c base s tag o → Gives (after_write c d (version t x) p) base s tag o
gives_after c base d p tag t o x (InSlot n) scratch gives = (record { within = gives.0.within; small = gives.0.small }, gives.1)
gives_after c base d p tag t o x (InRegister r) scratch gives = (gives.0, with_register-other c.regs d r (version t x) (not_place d r scratch gives.0) ∙ gives.1)
gives_after c base d p tag t o x (Constant parts) scratch gives = gives

pub operand_comes : (words : List ℕ) (c : Assertion) (base a b t : ℕ) (x : Operand) (o : Option ℕ) → IsFramed c base → c.regs 28 ≡ Free → c.regs 29 ≡ Free → 4 < a → IsKeeping b → IsKeeping t → GivesAll c base x o →
    Carries words (Excepted WindowPoints words) (bring_three a b t x) c (brought c a b t o (c.pc + 4 * length (bring_three a b t x)))
operand_comes words c base a b t x o framed first second above kb kt gives =
    let p1 = c.pc + 4 * length (bring t x.three) in
    let c1 = after_write c t (version Three o) (c.pc + 4 * length (bring t x.three)) in
    let p2 = c1.pc + 4 * length (bring b x.two) in
    let c2 = after_write c1 b (version Two o) (c1.pc + 4 * length (bring b x.two)) in
    let b4 : 4 < b = scratch_above b kb.scratch in
    let t4 : 4 < t = scratch_above t kt.scratch in
    let f1 = framed_after c base t p1 Three o framed t4 tt in
    let f2 = framed_after c1 base b p2 Two o f1 b4 tt in
    let first1 : c1.regs 28 ≡ Free = with_register-other c.regs t 28 (version Three o) (λ e. kt.not_first (sym e)) ∙ first in
    let second1 : c1.regs 29 ≡ Free = with_register-other c.regs t 29 (version Three o) (λ e. kt.not_second (sym e)) ∙ second in
    let first2 : c2.regs 28 ≡ Free = with_register-other c1.regs b 28 (version Two o) (λ e. kb.not_first (sym e)) ∙ first1 in
    let second2 : c2.regs 29 ≡ Free = with_register-other c1.regs b 29 (version Two o) (λ e. kb.not_second (sym e)) ∙ second1 in
    let g2 = gives_after c base t p1 Two Three o o x.two kt.scratch gives.two in
    let g1 = gives_after c1 base b p2 One Two o o x.one kb.scratch (gives_after c base t p1 One Three o o x.one kt.scratch gives.one) in
    let there : c.pc + 4 * length (bring_three a b t x) ≡ c2.pc + 4 * length (bring a x.one) = omega (arith, length-append (bring t x.three) (bring b x.two ++ bring a x.one), length-append (bring b x.two) (bring a x.one)) in
    let regs = with_register c2.regs a (version One o) in
    joined (comes words c base t x.three Three o framed first second t4 tt gives.three)
    (joined (comes words c1 base b x.two Two o f1 first1 second1 b4 tt g2)
    (carries_less (knows_same c2) (comes words c2 base a x.one One o f2 first2 second2 above tt g1)
    (knows_regs c2 (c2.pc + 4 * length (bring a x.one)) (c.pc + 4 * length (bring_three a b t x)) regs regs there (λ r. says_again (regs r)))))

-- between sequences the frame is at the stack pointer, and x28 and x29 are free
pub framed_stage : (g : Stage) (p : ℕ) → IsView (resting g One) → IsFramed (at_address (resting g One) p) g.base
framed_stage g p is =
    record {
      zero = view_cell-zero g One no_values;
      one = view_cell-two g One no_values;
      two = view_cell-three g One no_values;
      three = view_cell-four g One no_values;
      sures = sures_view (resting g One) is;
      size = is.size;
      frame = is.base;
    }

pub free_scratch : (g : Stage) (r : ℕ) → is_scratch r ≡ true → view_cell g One no_values r ≡ Free
free_scratch g r scratch = view_cell-scratch g One no_values r scratch

-- the address of an assertion doesn't matter to what sources give
pub gives_at : (g : Stage) (p : ℕ) (x : Operand) (o : Option ℕ) → IsGiven g x o → GivesAll (at_address (resting g One) p) g.base x o
gives_at g p x o gives = record { one = at x.one One gives.one; two = at x.two Two gives.two; three = at x.three Three gives.three }
  where
    at : (s : Source) (tag : Tag) → Gives (at_address (resting g One) 0) g.base s tag o → Gives (at_address (resting g One) p) g.base s tag o
    at (InSlot n) tag h = (record { within = h.0.within; small = h.0.small }, h.1)
    at (InRegister r) tag h = h
    at (Constant parts) tag h = h

-- a write said as a guard says it
over_written : (ks : List KeptRegister) (regs f : ℕ → Cell) (d : ℕ) (tag : Tag) (o : Option ℕ) → ((q : ℕ) → SaysLess (f q) (over ks regs q)) → (q : ℕ) → SaysLess (with_register f d (version tag o) q) (over (Kept d tag o ∷ ks) regs q)
over_written ks regs f d tag o says q = by_place (q == d) refl
  where
    by_place : (b : Bool) → (q == d) ≡ b → SaysLess (with_register f d (version tag o) q) (cond b (version tag o) (over ks regs q))
    by_place true e =
        let same : d ≡ q = grind (arith, nat_tests) in
        let P : ℕ → Type 0 = λ k. SaysLess (with_register f d (version tag o) k) (version tag o) in
        subst P same (rw (with_register-same f d (version tag o)) (says_again (version tag o)))
    by_place false e =
        let other : q ≢ d = grind (arith, nat_tests) in
        rw (with_register-other f d q (version tag o) other) (says q)

-- what three registers keep
abbrev pub three_kept : ℕ → ℕ → ℕ → Option ℕ → List KeptRegister → List KeptRegister
three_kept a b t o ks = Kept a One o ∷ Kept b Two o ∷ Kept t Three o ∷ ks

pub brought_less : (c : Assertion) (ks : List KeptRegister) (a b t : ℕ) (o : Option ℕ) (p q : ℕ) → q ≡ p → KnowsLess (brought (guard_at (record { around = c; kept = ks }) q) a b t o p) (guard_at (record { around = c; kept = three_kept a b t o ks }) q)
brought_less c ks a b t o p q at =
    let f0 = over ks c.regs in
    let f1 = with_register f0 t (version Three o) in
    let f2 = with_register f1 b (version Two o) in
    record {
      pc = at;
      regs = over_written (Kept b Two o ∷ Kept t Three o ∷ ks) c.regs f2 a One o
          (over_written (Kept t Three o ∷ ks) c.regs f1 b Two o (over_written ks c.regs f0 t Three o (λ r. says_again (over ks c.regs r))));
      slots = λ k damage x h. h;
      bytes = λ o x h. h;
      size = refl;
      input = refl;
      out = refl;
    }

-- from between sequences to a guard with the three versions
pub stage_brings : (words : List ℕ) (g : Stage) (a b t : ℕ) (x : Operand) (o : Option ℕ) (p : ℕ) → IsView (resting g One) → 4 < a → IsKeeping b → IsKeeping t → IsGiven g x o →
    Carries words (Excepted WindowPoints words) (bring_three a b t x) (at_address (resting g One) p) (guard_at (guarded g (three_kept a b t o [])) (p + 4 * length (bring_three a b t x)))
stage_brings words g a b t x o p is above kb kt gives =
    let c = at_address (resting g One) p in
    let q = p + 4 * length (bring_three a b t x) in
    carries_less (knows_same c) (operand_comes words c g.base a b t x o (framed_stage g p is) (free_scratch g 28 refl) (free_scratch g 29 refl) above kb kt (gives_at g p x o gives))
    (brought_less (at_address (resting g One) 0) [] a b t o q q refl)

keeping : (r : ℕ) → is_scratch r ≡ true → r ≢ 28 → r ≢ 29 → IsKeeping r
keeping r scratch first second = record { scratch = scratch; not_first = first; not_second = second }

pub keeping_six : IsKeeping 6
keeping_six = keeping 6 refl (omega arith) (omega arith)

pub keeping_seven : IsKeeping 7
keeping_seven = keeping 7 refl (omega arith) (omega arith)

pub keeping_thirty : IsKeeping 30
keeping_thirty = keeping 30 refl (omega arith) (omega arith)

pub keeping_last : IsKeeping 31
keeping_last = keeping 31 refl (omega arith) (omega arith)

-- nothing but x0 is kept for sure between sequences
pub calm_stage : (g : Stage) (ks : List KeptRegister) → IsView (resting g One) → IsCalm (guarded g ks)
calm_stage g ks is = sures_view (resting g One) is

check_line : (words : List ℕ) (g : Stage) (o : Option ℕ) → Line words (check_words 5 6 7) (guarded g (three_kept 5 6 7 o [])) 2 (guarded g (Kept 5 Sure o ∷ []))
check_line words g o =
    line_forget 7 (free_scratch g 7 refl)
    (line_forget 6 (free_scratch g 6 refl)
    (line_check_any 5 6 7 o refl refl refl refl (lit< tt) refl refl (line_start words (check_words 5 6 7) (guarded g (three_kept 5 6 7 o [])))))

pub operand_is_fetched : (words : List ℕ) (g : Stage) (x : Operand) (o : Option ℕ) (p : ℕ) → IsView (resting g One) → IsGiven g x o →
    Carries words (Excepted WindowPoints words) (fetch_operand x) (at_address (resting g One) p) (fetched_operand g o (p + 4 * length (fetch_operand x)))
operand_is_fetched words g x o p is gives =
    let q = p + 4 * length (bring_three 5 6 7 x) in
    let there : p + 4 * length (bring_three 5 6 7 x) + 8 ≡ p + 4 * length (fetch_operand x) = omega (arith, length-append (bring_three 5 6 7 x) (check_words 5 6 7)) in
    let P : ℕ → Type 0 = λ r. Carries words (Excepted WindowPoints words) (fetch_operand x) (at_address (resting g One) p) (fetched_operand g o r) in
    subst P there
    (joined (stage_brings words g 5 6 7 x o p is (omega arith) keeping_six keeping_seven gives)
    (line_carries (calm_stage g (three_kept 5 6 7 o []) is) q (check_line words g o)))

-- the words after those that bring an operand
placed_after : (words : List ℕ) (p : ℕ) (front middle : List Form) (j : Form) → IsPlaced words p ((front ++ middle) ++ j ∷ []) → IsPlaced words (p + 4 * length front) (middle ++ j ∷ [])
placed_after words p front middle j placed =
    let P : List Form → Type 0 = λ code. IsPlaced words p code in
    placed_back words p front (middle ++ j ∷ []) (subst P (append_assoc front middle (j ∷ [])) placed)

-- the next word uses x5
next_uses : (j : Form) → reads j 5 ≡ true → may_use 5 (BEQ 5 6 (pos 8)) j ≡ true → all_in_windows (check_words 5 6 7 ++ j ∷ []) 2 (5 ∷ []) ≡ true
next_uses j read used = rw (read, used) refl

pub operand_is_covered : (words : List ℕ) (g : Stage) (x : Operand) (o : Option ℕ) (p : ℕ) (j : Form) → IsView (resting g One) → IsPlaced words p (fetch_operand x ++ j ∷ []) → IsTrue (reads j 5) → IsTrue (may_use 5 (BEQ 5 6 (pos 8)) j) →
    Covered (Excepted WindowPoints words) (fetched_operand g o (p + 4 * length (fetch_operand x)))
operand_is_covered words g x o p j is placed read used =
    let q = p + 4 * length (bring_three 5 6 7 x) in
    let there : p + 4 * length (bring_three 5 6 7 x) + 4 * 2 ≡ p + 4 * length (fetch_operand x) = omega (arith, length-append (bring_three 5 6 7 x) (check_words 5 6 7)) in
    let P : ℕ → Type 0 = λ r. Covered (Excepted WindowPoints words) (fetched_operand g o r) in
    subst P there
    (covered_at words q (check_words 5 6 7 ++ j ∷ []) 2 (guarded g (Kept 5 Sure o ∷ [])) (placed_after words p (bring_three 5 6 7 x) (check_words 5 6 7) j placed) (calm_stage g (Kept 5 Sure o ∷ []) is) (next_uses j read used))

-- the value and the address
abbrev pub check_both : List Form
check_both = check_words 5 6 7 ++ check_words 28 30 31

abbrev pub both_kept : Option ℕ → ℕ → List KeptRegister
both_kept o a = three_kept 28 30 31 (Some a) (three_kept 5 6 7 o [])

-- a frame seen from a guard
framed_guard : (g : Stage) (o : Option ℕ) (p : ℕ) → IsView (resting g One) → IsFramed (guard_at (guarded g (three_kept 5 6 7 o [])) p) g.base
framed_guard g o p is =
    let v = framed_stage g p is in
    record { zero = v.zero; one = v.one; two = v.two; three = v.three; sures = sures_over (three_kept 5 6 7 o []) (view_cell g One no_values) (sures_view (resting g One) is); size = v.size; frame = v.frame }

-- the operand's sources are no scratch registers
gives_guard : (g : Stage) (o : Option ℕ) (p : ℕ) (y : Operand) (x : Option ℕ) → IsGiven g y x → GivesAll (guard_at (guarded g (three_kept 5 6 7 o [])) p) g.base y x
gives_guard g o p y x gives = record { one = at y.one One gives.one; two = at y.two Two gives.two; three = at y.three Three gives.three }
  where
    other : (r d : ℕ) → is_scratch d ≡ true → IsPlace r → (r == d) ≡ false
    other r d scratch place = grind (arith, nat_tests, place.0, place.1)

    at : (s : Source) (tag : Tag) → Gives (at_address (resting g One) 0) g.base s tag x → Gives (guard_at (guarded g (three_kept 5 6 7 o [])) p) g.base s tag x
    at (InSlot n) tag h = (record { within = h.0.within; small = h.0.small }, h.1)
    at (InRegister r) tag h = (h.0, rw (other r 5 refl h.0, other r 6 refl h.0, other r 7 refl h.0) h.1)
    at (Constant parts) tag h = h

-- the next word uses x5 and x28: all of these are window points
uses_both : (j : Form) → UsesBoth j → (all_in_windows (check_both ++ j ∷ []) 2 (5 ∷ []) ≡ true) × (all_in_windows (check_both ++ j ∷ []) 4 (28 ∷ 5 ∷ []) ≡ true)
uses_both j uses =
    let read : reads j 5 ≡ true = uses.reads_value in
    let used : may_use 5 (BEQ 5 6 (pos 8)) j ≡ true = uses.uses_value in
    let read' : reads j 28 ≡ true = uses.reads_address in
    let used' : may_use 28 (BEQ 28 30 (pos 8)) j ≡ true = uses.uses_address in
    (rw (read, used) refl, rw (read', used', read, used) refl)

both_line : (words : List ℕ) (g : Stage) (o : Option ℕ) (a : ℕ) (j : Form) → UsesBoth j → Line words (check_both ++ j ∷ []) (guarded g (both_kept o a)) 4 (guarded g (Kept 28 Sure (Some a) ∷ Kept 5 Sure o ∷ []))
both_line words g o a j uses =
    line_forget 31 (free_scratch g 31 refl)
    (line_forget 30 (free_scratch g 30 refl)
    (line_check 28 30 31 a refl refl refl refl (lit< tt) ((uses_both j uses).0)
    (line_forget 7 (free_scratch g 7 refl)
    (line_forget 6 (free_scratch g 6 refl)
    (line_check_any 5 6 7 o refl refl refl refl (lit< tt) refl refl (line_start words (check_both ++ j ∷ []) (guarded g (both_kept o a))))))))

-- how long the words are
both_length : (x y : Operand) (p : ℕ) → p + 4 * length (bring_three 5 6 7 x) + 4 * length (bring_three 28 30 31 y) + 16 ≡ p + 4 * length (fetch_both x y)
both_length x y p =
    omega (arith, length-append (bring_three 5 6 7 x) (bring_three 28 30 31 y ++ check_both), length-append (bring_three 28 30 31 y) check_both)

-- where the checks and the next word stand
both_placed : (words : List ℕ) (x y : Operand) (p : ℕ) (j : Form) → IsPlaced words p (fetch_both x y ++ j ∷ []) → IsPlaced words (p + 4 * length (bring_three 5 6 7 x) + 4 * length (bring_three 28 30 31 y)) (check_both ++ j ∷ [])
both_placed words x y p j placed =
    let front = bring_three 5 6 7 x in
    let second = bring_three 28 30 31 y in
    let Q : List Form → Type 0 = λ code. IsPlaced words p code in
    let whole : (bring_three 5 6 7 x ++ (bring_three 28 30 31 y ++ check_both)) ++ j ∷ [] ≡ bring_three 5 6 7 x ++ ((bring_three 28 30 31 y ++ check_both) ++ j ∷ []) = append_assoc (bring_three 5 6 7 x) (bring_three 28 30 31 y ++ check_both) (j ∷ []) in
    placed_after words (p + 4 * length front) second check_both j (placed_back words p front ((second ++ check_both) ++ j ∷ []) (subst Q whole placed))

pub both_are_fetched : (words : List ℕ) (g : Stage) (x y : Operand) (o : Option ℕ) (a p : ℕ) (j : Form) → IsView (resting g One) → IsGiven g x o → IsGiven g y (Some a) → UsesBoth j → IsPlaced words p (fetch_both x y ++ j ∷ []) →
    Carries words (Excepted WindowPoints words) (fetch_both x y) (at_address (resting g One) p) (fetched_both g o a (p + 4 * length (fetch_both x y)))
both_are_fetched words g x y o a p j is gives gives' uses placed =
    let q = p + 4 * length (bring_three 5 6 7 x) in
    let r = p + 4 * length (bring_three 5 6 7 x) + 4 * length (bring_three 28 30 31 y) in
    let c = guard_at (guarded g (three_kept 5 6 7 o [])) q in
    let P : ℕ → Type 0 = λ r. Carries words (Excepted WindowPoints words) (fetch_both x y) (at_address (resting g One) p) (fetched_both g o a r) in
    subst P (both_length x y p)
    (joined (stage_brings words g 5 6 7 x o p is (omega arith) keeping_six keeping_seven gives)
    (joined (carries_less (knows_same c)
    (operand_comes words c g.base 28 30 31 y (Some a) (framed_guard g o q is) (free_scratch g 28 refl) (free_scratch g 29 refl) (omega arith) keeping_thirty keeping_last (gives_guard g o q y (Some a) gives'))
    (brought_less (at_address (resting g One) 0) (three_kept 5 6 7 o []) 28 30 31 (Some a) r r refl))
    (line_front check_both (j ∷ []) r (calm_stage g (both_kept o a) is) (both_placed words x y p j placed) (both_line words g o a j uses))))

pub both_are_covered : (words : List ℕ) (g : Stage) (x y : Operand) (o : Option ℕ) (a p : ℕ) (j : Form) → IsView (resting g One) → UsesBoth j → IsPlaced words p (fetch_both x y ++ j ∷ []) →
    Covered (Excepted WindowPoints words) (fetched_both g o a (p + 4 * length (fetch_both x y)))
both_are_covered words g x y o a p j is uses placed =
    let P : ℕ → Type 0 = λ r. Covered (Excepted WindowPoints words) (fetched_both g o a r) in
    subst P (both_length x y p)
    (covered_at words (p + 4 * length (bring_three 5 6 7 x) + 4 * length (bring_three 28 30 31 y)) (check_both ++ j ∷ []) 4 (guarded g (Kept 28 Sure (Some a) ∷ Kept 5 Sure o ∷ [])) (both_placed words x y p j placed)
    (calm_stage g (Kept 28 Sure (Some a) ∷ Kept 5 Sure o ∷ []) is) ((uses_both j uses).1))

one_unsure : (v w : ℕ) → Has One v ≡ Has Sure w → ⊥
one_unsure v w e = cc

two_unsure : (v w : ℕ) → Has Two v ≡ Has Sure w → ⊥
two_unsure v w e = cc

-- a constant that is made twice and compared
pub constant_is_guarded : (words : List ℕ) (c : Assertion) (d b : ℕ) (parts : List Part) (v : ℕ) → c.regs 0 ≡ Has Sure 0 → Sures c.regs [] → 0 < d → 0 < b → d ≢ b → made parts None ≡ Some v →
    Carries words (Excepted WindowPoints words) (guarded_constant d b parts) c (after_write (after_write c b Free (c.pc + 4 * length (guarded_constant d b parts))) d (Has Sure v) (c.pc + 4 * length (guarded_constant d b parts)))
constant_is_guarded words c d b parts v x0 sures d0 b0 ne e =
    let size = length (part_words d parts) in
    let W = Excepted WindowPoints words in
    let p1 = c.pc + 4 * length (part_words d parts) in
    let c1 = after_write c d (Has One v) p1 in
    let p2 = p1 + 4 * length (part_words b parts) in
    let c2 = after_write c1 b (Has Two v) p2 in
    let end = c.pc + 4 * length (guarded_constant d b parts) in
    let zero1 : c1.regs 0 ≡ Has Sure 0 = with_register-other c.regs d 0 (Has One v) (omega arith) ∙ x0 in
    let zero2 : c2.regs 0 ≡ Has Sure 0 = with_register-other c1.regs b 0 (Has Two v) (omega arith) ∙ zero1 in
    let s1 = sures_other c.regs d (Has One v) [] (one_unsure v) sures in
    let s2 = sures_other c1.regs b (Has Two v) [] (two_unsure v) s1 in
    let there : c.pc + 4 * length (guarded_constant d b parts) ≡ p2 + 4 * length (checked d b (part_words d parts)) =
    omega (arith, length-append (part_words d parts) (part_words b parts ++ checked d b (part_words d parts)), length-append (part_words b parts) (checked d b (part_words d parts))) in
    let one : c2.regs d ≡ Has One v = with_register-other c1.regs b d (Has Two v) ne ∙ with_register-same c.regs d (Has One v) in
    let two : c2.regs b ≡ Has Two v = with_register-same c1.regs b (Has Two v) in
    let first : Carries words W (part_words d parts) c c1 =
    at_value words W c d One parts v c e (carries_less (starts c d One) (parts_carry words W c d c.pc One parts None x0 d0 tt (λ q x. covered W (making c d One x q) [] (sures_other c.regs d (version One x) [] (not_sure_version One x tt) sures) tt)) (knows_same (making c d One (made parts None) p1))) in
    let second : Carries words W (part_words b parts) c1 c2 =
    at_value words W c1 b Two parts v c1 e (carries_less (starts c1 b Two) (parts_carry words W c1 b p1 Two parts None zero1 b0 tt (λ q x. covered W (making c1 b Two x q) [] (sures_other c1.regs b (version Two x) [] (not_sure_version Two x tt) s1) tt)) (knows_same (making c1 b Two (made parts None) p2))) in
    let c3 = promoted c2 (p2 + 4) in
    let zero3 : c3.regs 0 ≡ Has Sure 0 = ap promoted_cell zero2 in
    let again : Carries words (Excepted AllPoints words) (part_words d parts) c3 (making c3 d Sure (Some v) (p2 + 4 + 4 * length (part_words d parts))) =
    at_value words (Excepted AllPoints words) c3 d Sure parts v c3 e
    (carries_less (starts c3 d Sure) (parts_carry words (Excepted AllPoints words) c3 d (p2 + 4) Sure parts None zero3 d0 tt (λ q x r w e n. tt)) (knows_same (making c3 d Sure (made parts None) (p2 + 4 + 4 * length (part_words d parts))))) in
    joined first
    (joined second
    (check_carries words W c2 (after_write (after_write c b Free end) d (Has Sure v) end) d b v (part_words d parts) one two (covered W c2 [] s2 tt)
    (compared c d b v p2 (p2 + 4 * length (checked d b (part_words d parts))) end there)
    (carries_less (knows_same c3) again (remade c d b v p2 (p2 + 4 + 4 * length (part_words d parts)) end (there ∙ longer p2 (length (part_words d parts)))))))
  where
    longer : (q n : ℕ) → q + 4 * suc n ≡ q + 4 + 4 * n
    longer q n = omega arith

    -- before the first word of a constant nothing need be known of its register
    starts : (c : Assertion) (d : ℕ) (tag : Tag) → KnowsLess c (making c d tag None c.pc)
    starts c d tag = knows_regs c c.pc c.pc c.regs (with_register c.regs d Free) refl (λ q. forgets c.regs d q)

    -- the second copy is forgotten
    end_less : (c : Assertion) (d b v : ℕ) (q : ℕ) → SaysLess (with_register (with_register (with_register c.regs d (Has One v)) b (Has Two v)) d (Has Sure v) q) (with_register (with_register c.regs b Free) d (Has Sure v) q)
    end_less c d b v =
        written_says (with_register (with_register c.regs d (Has One v)) b (Has Two v)) (with_register c.regs b Free) d (Has Sure v) (Has Sure v) (says_again (Has Sure v))
        (λ r ne. written_only c d b v r ne (r == b) refl)
      where
        written_only : (c : Assertion) (d b v r : ℕ) → r ≢ d → (t : Bool) → (r == b) ≡ t → SaysLess (with_register (with_register c.regs d (Has One v)) b (Has Two v) r) (with_register c.regs b Free r)
        written_only c d b v r ne true e =
            let same : b ≡ r = grind (arith, nat_tests) in
            let P : ℕ → Type 0 = λ k. SaysLess (with_register (with_register c.regs d (Has One v)) b (Has Two v) k) (with_register c.regs b Free k) in
            subst P same (rw (with_register-same c.regs b Free) (says_free (with_register (with_register c.regs d (Has One v)) b (Has Two v) b)))
        written_only c d b v r ne false e =
            let other : r ≢ b = grind (arith, nat_tests) in
            rw (with_register-other (with_register c.regs d (Has One v)) b r (Has Two v) other, with_register-other c.regs d r (Has One v) ne, with_register-other c.regs b r Free other) (says_again (c.regs r))

    compared : (c : Assertion) (d b v p q end : ℕ) → end ≡ q → KnowsLess (after_write (after_write (after_write c d (Has One v) p) b (Has Two v) p) d (Has Sure v) q) (after_write (after_write c b Free end) d (Has Sure v) end)
    compared c d b v p q end at =
        record { pc = at; regs = end_less c d b v; slots = λ k damage x h. h; bytes = λ o x h. h; size = refl; input = refl; out = refl }

    remade : (c : Assertion) (d b v p q end : ℕ) → end ≡ q →
        KnowsLess (making (promoted (after_write (after_write c d (Has One v) p) b (Has Two v) p) (p + 4)) d Sure (Some v) q) (after_write (after_write c b Free end) d (Has Sure v) end)
    remade c d b v p q end at =
        let f = with_register (with_register c.regs d (Has One v)) b (Has Two v) in
        record {
          pc = at;
          regs = λ r. says_then (with_register (λ k. promoted_cell (f k)) d (Has Sure v) r) (with_register f d (Has Sure v) r) (with_register (with_register c.regs b Free) d (Has Sure v) r)
              (written_says (λ k. promoted_cell (f k)) f d (Has Sure v) (Has Sure v) (says_again (Has Sure v)) (λ k ne. promoted_says (f k)) r) (end_less c d b v r);
          slots = λ k. promoted_says (c.slots k);
          bytes = λ o x h. h;
          size = refl;
          input = refl;
          out = refl;
        }

    at_value : (words : List ℕ) (W : ℕ → ℕ → Type 0) (c : Assertion) (d : ℕ) (tag : Tag) (parts : List Part) (v : ℕ) (from : Assertion) → made parts None ≡ Some v →
        Carries words W (part_words d parts) from (making c d tag (made parts None) (from.pc + 4 * length (part_words d parts))) → Carries words W (part_words d parts) from (making c d tag (Some v) (from.pc + 4 * length (part_words d parts)))
    at_value words W c d tag parts v from e one =
        let P : Option ℕ → Type 0 = λ x. Carries words W (part_words d parts) from (making c d tag x (from.pc + 4 * length (part_words d parts))) in
        subst P e one

-- the check of a register that may have a window begins one
check_begins : (d b n : ℕ) → 0 < b → d ≢ b → 0 < n → begins d (BEQ d b (pos (4 * n + 4))) ≡ true
check_begins d b n some ne far =
    let own : (d == d) ≡ true = same_test d in
    let above : nat_lt 0 b ≡ true = grind (arith, nat_tests) in
    let other : (b == d) ≡ false = other_test b d (λ e. ne (sym e)) in
    let not_next : (4 * n + 4 == 4) ≡ false = grind (arith, nat_tests) in
    rw (own, above, other, not_next) refl

operand_windows : (d b n : ℕ) (j : Form) → is_operand_register d ≡ true → has_window d (BEQ d b (pos n)) j ≡ true
operand_windows d b n j e =
    let second = d == 10 && (is_ecall (BEQ d b (pos n)) || is_ecall j) in
    let third = (d == 11 || d == 12 || d == 17) && is_ecall j in
    or_left (is_operand_register d || second) third (or_left (is_operand_register d) second e)

pub constant_is_covered : (words : List ℕ) (c : Assertion) (d b : ℕ) (parts : List Part) (v : ℕ) (j : Form) → Sures c.regs [] → IsTrue (is_operand_register d) → 0 < b → d ≢ b → 0 < length (part_words d parts) →
    IsPlaced words c.pc (guarded_constant d b parts ++ j ∷ []) → IsTrue (reads j d) → IsTrue (may_use d (BEQ d b (pos (4 * length (part_words d parts) + 4))) j) →
    Covered (Excepted WindowPoints words) (after_write (after_write c b Free (c.pc + 4 * length (guarded_constant d b parts))) d (Has Sure v) (c.pc + 4 * length (guarded_constant d b parts)))
constant_is_covered words c d b parts v j sures operand some ne far placed read used =
    let n = length (part_words d parts) in
    let first = part_words d parts in
    let second = part_words b parts in
    let repair = part_words d parts in
    let end = c.pc + 4 * length (guarded_constant d b parts) in
    let P : List Form → Type 0 = λ code. IsPlaced words c.pc code in
    let whole : (first ++ (second ++ checked d b repair)) ++ j ∷ [] ≡ first ++ ((second ++ checked d b repair) ++ j ∷ []) = append_assoc first (second ++ checked d b repair) (j ∷ []) in
    let p2 = c.pc + 4 * length first + 4 * length second in
    let check : IsPlaced words (c.pc + 4 * length (part_words d parts) + 4 * length (part_words b parts)) (checked d b (part_words d parts) ++ j ∷ []) =
    placed_after words (c.pc + 4 * length first) second (checked d b repair) j (placed_back words c.pc first ((second ++ checked d b repair) ++ j ∷ []) (subst P whole placed)) in
    let sizes : c.pc + 4 * length (part_words d parts) + 4 * length (part_words b parts) + (4 * length (part_words d parts) + 4) ≡ c.pc + 4 * length (guarded_constant d b parts) =
    omega (arith, length-append first (second ++ checked d b repair), length-append second (checked d b repair)) in
    let last : IsPlaced words (p2 + 4 * length (checked d b repair)) (j ∷ []) = placed_back words p2 (checked d b repair) (j ∷ []) check in
    let there : (p2 + (4 * n + 4)) % 2 ^ 64 ≡ end = omega (arith, check.room, length-append (checked d b repair) (j ∷ [])) in
    let at : end + 4 * 0 ≡ end = omega arith in
    let here : p2 + 4 * length (checked d b repair) ≡ end = omega arith in
    let Q : ℕ → Type 0 = λ q. Stands words q j × Unit {0} in
    let R : ℕ → Type 0 = λ q. IsWindowPoint words text_base q d in
    let window : IsWindowPoint words text_base end d =
    subst R at
    (window_after words p2 end d (BEQ d b (pos (4 * n + 4))) [] j 0 check.stands.0 there (subst Q here last.stands) tt (lit≤ tt) (lit≤ tt) tt (check_begins d b n some ne far) read used (operand_windows d b (4 * n + 4) j operand)) in
    covered (Excepted WindowPoints words) (after_write (after_write c b Free end) d (Has Sure v) end) (d ∷ [])
    (sures_sure (with_register c.regs b Free) d v [] (sures_other c.regs b Free [] (λ w e. cc) sures)) (window, tt)
