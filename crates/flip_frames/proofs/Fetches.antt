-- The fetch of the right value of three copies.
use Rattle.std.proofs.Common.{◌≡◌, ◌≢◌, ℕ, ◌+◌, ◌*◌, ◌%◌, ◌<◌, ◌≤◌, ◌^◌, ◌==◌, Bool, true, false, List, [], ◌∷◌, ◌++◌, None, refl, sym, ◌∙◌, ap, subst, arith, lit≤}
use Rattle.std.specs.Prelude.{pos, IsTrue}
use Rattle.std.proofs.lemmas.Bool.Decides.{nat_tests}
use Rattle.rv_inst.specs.declared.instruction.Form.{Form}
use Rattle.rv_inst.specs.declared.instruction.Form.TheVariants.{ADDI, BEQ, LD}
use Rattle.rv_inst.specs.Registers.{reads}
use Rattle.rv_inst.specs.Window.{IsWindowPoint, may_use}
use Rattle.rv_model.specs.State.{plus64}
use Rattle.rv_model.specs.Text.{text_base, Stands, StandsAll}
use Rattle.rv_flips.specs.Cells.{Sure, One, Two, Three, Cell, Has, SaysLess}
use Rattle.rv_flips.specs.Assertion.{Assertion, with_register, after_write}
use Rattle.rv_flips.specs.Fetching.{fetch_words, IsTriple}
use Rattle.rv_flips.specs.Moves.{Covered}
use Rattle.rv_flips.proofs.CellLemmas.{with_register-same, with_register-other, says_same, says_free, sure_says}
use Rattle.rv_flips.proofs.KnownRegisters.{covered, sures_sure, sures_other}
use Rattle.flip_words.specs.Placed.{WindowPoints, AllPoints, Excepted, IsPlaced, Carries}
use Rattle.flip_words.specs.Joining.{promoted_cell, promoted}
use Rattle.flip_words.specs.Words.{slot_address, IsSlotAddress}
use Rattle.flip_words.proofs.CarryLemmas.{joined, carries_less}
use Rattle.flip_words.proofs.LessLemmas.{says_again, says_then, knows_same, knows_regs, written_says, written_less, unpromoted, carries_placed}
use Rattle.flip_words.proofs.ComputeLaws.{copy_carries}
use Rattle.flip_words.proofs.CheckLaw.{check_carries}
use Rattle.flip_words.proofs.SlotLaws.{load_carries}
use Rattle.flip_words.proofs.Windows.{window_after}
use Rattle.flip_frames.specs.Views.{View, IsView, view_cell, at_address, with_value, with_scratch}
use Rattle.flip_frames.specs.Slots.{vote_words, IsInData}
use Rattle.flip_frames.specs.Fetching.{Triple, HoldsTriple, fetch_slots, fetched}
use Rattle.flip_frames.proofs.ViewLemmas.{view_cell-two, sures_view, scratch_written, scratch_kept}
use Rattle.flip_frames.proofs.Votes.{voted, vote_carries, sures_voted}

-- a check with a copy as its repair: the right value is in d, whatever else is known stays
pub copy_repairs : (words : List ℕ) (c : Assertion) (d b t v p q : ℕ) → c.regs d ≡ Has One v → c.regs b ≡ Has Two v → c.regs t ≡ Has Three v → 0 < d → p ≡ c.pc → q ≡ p + 8 → Covered (Excepted WindowPoints words) c →
    Carries words (Excepted WindowPoints words) (BEQ d b (pos 8) ∷ ADDI d t (pos 0) ∷ []) c (after_write c d (Has Sure v) q)
copy_repairs words c d b t v p q one two three nonzero same at covered =
    let right : (promoted c (c.pc + 4)).regs t ≡ Has Sure v = ap promoted_cell three in
    let there : q ≡ c.pc + 4 + 4 = omega arith in
    let taken : q ≡ c.pc + 8 = omega arith in
    let P : Cell → Type 0 = λ cell. Carries words (Excepted AllPoints words) (ADDI d t (pos 0) ∷ []) (promoted c (c.pc + 4)) (after_write (promoted c (c.pc + 4)) d cell (c.pc + 4 + 4)) in
    let repair : Carries words (Excepted AllPoints words) (ADDI d t (pos 0) ∷ []) (promoted c (c.pc + 4)) (after_write (promoted c (c.pc + 4)) d (Has Sure v) (c.pc + 4 + 4)) =
    subst P right (copy_carries words (Excepted AllPoints words) (promoted c (c.pc + 4)) d t nonzero (λ r w e n. tt)) in
    check_carries words (Excepted WindowPoints words) c (after_write c d (Has Sure v) q) d b v (ADDI d t (pos 0) ∷ []) one two covered
    (knows_regs c (c.pc + 8) q (with_register c.regs d (Has Sure v)) (with_register c.regs d (Has Sure v)) taken (λ r. says_again (with_register c.regs d (Has Sure v) r)))
    (carries_less (knows_same (promoted c (c.pc + 4))) repair (unpromoted c (c.pc + 4) (c.pc + 4 + 4) d (Has Sure v) q there))

pub fetch_carries : (words : List ℕ) (c : Assertion) (d a b t v : ℕ) → IsTriple c.regs a b t v → 0 < d → d ≢ b → d ≢ t → Covered (Excepted WindowPoints words) c → Covered (Excepted WindowPoints words) (after_write c d (Has One v) (c.pc + 4)) →
    Carries words (Excepted WindowPoints words) (fetch_words d a b t) c (after_write c d (Has Sure v) (c.pc + 12))
fetch_carries words c d a b t v triple nonzero not_b not_t covered1 covered2 =
    let c1 = after_write c d (Has One v) (c.pc + 4) in
    let own : c1.regs d ≡ Has One v = with_register-same c.regs d (Has One v) in
    let two : c1.regs b ≡ Has Two v = with_register-other c.regs d b (Has One v) (λ e. not_b (sym e)) ∙ triple.two in
    let three : c1.regs t ≡ Has Three v = with_register-other c.regs d t (Has One v) (λ e. not_t (sym e)) ∙ triple.three in
    let P : Cell → Type 0 = λ cell. Carries words (Excepted WindowPoints words) (ADDI d a (pos 0) ∷ []) c (after_write c d cell (c.pc + 4)) in
    let copy = subst P triple.one (copy_carries words (Excepted WindowPoints words) c d a nonzero covered1) in
    let at : c.pc + 12 ≡ c.pc + 4 + 8 = omega arith in
    let check = copy_repairs words c1 d b t v (c.pc + 4) (c.pc + 12) own two three nonzero refl at covered2 in
    joined copy (carries_less (knows_same c1) check
    (knows_regs c (c.pc + 12) (c.pc + 12) (with_register c1.regs d (Has Sure v)) (with_register c.regs d (Has Sure v)) refl
    (written_says c1.regs c.regs d (Has Sure v) (Has Sure v) (says_again (Has Sure v)) (λ r ne. says_same (c1.regs r) (c.regs r) (with_register-other c.regs d r (Has One v) ne)))))

-- each of the three loads is a window point of the voted stack pointer
window_loads : (words : List ℕ) (p : ℕ) (x : Triple) (n : ℕ) → n ≤ 2 → StandsAll words p (fetch_slots x) → (p + 8) % 2 ^ 64 ≡ p + 8 → IsWindowPoint words text_base (p + 8 + 4 * n) 2
window_loads words p x n few stands room =
    let same : p + 4 + 4 ≡ p + 8 = omega arith in
    let P : ℕ → Type 0 = λ q. StandsAll words q (LD 5 2 (pos (8 * x.one)) ∷ LD 6 2 (pos (8 * x.two)) ∷ LD 7 2 (pos (8 * x.three)) ∷ []) in
    window_after words p (p + 8) 2 (BEQ 2 3 (pos 8)) (LD 5 2 (pos (8 * x.one)) ∷ LD 6 2 (pos (8 * x.two)) ∷ []) (LD 7 2 (pos (8 * x.three))) n stands.0 room
    (subst P same (stands.1.1.0, (stands.1.1.1.0, (stands.1.1.1.1.0, tt)))) (refl, (refl, tt)) (lit≤ tt) few (refl, (refl, tt)) refl refl refl refl

-- the stack pointer stays right while scratch registers are written
slot_after : (v : View) (c : Assertion) (n p : ℕ) → IsView v → IsInData v n → c.regs 2 ≡ Has Sure (slot_address v.stage.base) → c.size ≡ v.stage.size → IsSlotAddress c 2 (pos (8 * n)) (v.stage.base + n)
slot_after v c n p is within right size =
    let leads : plus64 (slot_address v.stage.base) (8 * n) ≡ slot_address (v.stage.base + n) = omega (arith, is.size, is.base) in
    let fits : 8 * (v.stage.base + n) + 8 ≤ c.size = omega arith in
    record { base = slot_address v.stage.base; right = right; leads = leads; within = fits }

one_unsure : (v w : ℕ) → Has One v ≡ Has Sure w → ⊥
one_unsure v w e = cc

two_unsure : (v w : ℕ) → Has Two v ≡ Has Sure w → ⊥
two_unsure v w e = cc

three_unsure : (v w : ℕ) → Has Three v ≡ Has Sure w → ⊥
three_unsure v w e = cc

abbrev regs_of : View → ℕ → Cell
regs_of v = view_cell v.stage v.tag v.file

-- the registers with three copies loaded, over others
abbrev with_triple : (ℕ → Cell) → ℕ → ℕ → Cell
with_triple regs value = with_register (with_register (with_register regs 5 (Has One value)) 6 (Has Two value)) 7 (Has Three value)

-- two files that agree at a place agree there after the same write
same_over : (f g : ℕ → Cell) (d : ℕ) (cell : Cell) (r : ℕ) → f r ≡ g r → with_register f d cell r ≡ with_register g d cell r
same_over f g d cell r e = by_place (r == d) refl
  where
    by_place : (b : Bool) → (r == d) ≡ b → with_register f d cell r ≡ with_register g d cell r
    by_place true t =
        let same : d ≡ r = grind (arith, nat_tests) in
        let P : ℕ → Type 0 = λ q. with_register f d cell q ≡ with_register g d cell q in
        subst P same (with_register-same f d cell ∙ sym (with_register-same g d cell))
    by_place false t =
        let other : r ≢ d = grind (arith, nat_tests) in
        with_register-other f d r cell other ∙ e ∙ sym (with_register-other g d r cell other)

-- but for x5 the first of the three loads doesn't matter
without_five : (regs : ℕ → Cell) (value r : ℕ) → r ≢ 5 → with_triple regs value r ≡ with_register (with_register regs 6 (Has Two value)) 7 (Has Three value) r
without_five regs value r ne = same_over (with_register (with_register regs 5 (Has One value)) 6 (Has Two value)) (with_register regs 6 (Has Two value)) 7 (Has Three value) r
    (same_over (with_register regs 5 (Has One value)) regs 6 (Has Two value) r (with_register-other regs 5 r (Has One value) ne))

-- after the loads the vote is forgotten
loaded_less : (v : View) (x : Triple) (value : ℕ) → HoldsTriple v x value → (q : ℕ) →
    SaysLess (with_register (with_register (with_register (with_register (regs_of v) 2 (Has Sure (slot_address v.stage.base))) 5 (Has One value)) 6 (Has Two value)) 7 (v.stage.slots (v.stage.base + x.three)) q) (with_triple (regs_of v) value q)
loaded_less v x value holds =
    let sp = slot_address v.stage.base in
    let r0 = with_register (regs_of v) 2 (Has Sure sp) in
    let r1 = with_register r0 5 (Has One value) in
    let t1 = with_register (regs_of v) 5 (Has One value) in
    let s0 = written_less (regs_of v) (regs_of v) 2 (Has Sure sp) (rw (view_cell-two v.stage v.tag v.file) (sure_says One sp)) (λ r ne. says_again (regs_of v r)) in
    let s1 = written_says r0 (regs_of v) 5 (Has One value) (Has One value) (says_again (Has One value)) (λ r ne. s0 r) in
    let s2 = written_says r1 t1 6 (Has Two value) (Has Two value) (says_again (Has Two value)) (λ r ne. s1 r) in
    written_says (with_register r1 6 (Has Two value)) (with_register t1 6 (Has Two value)) 7 (v.stage.slots (v.stage.base + x.three)) (Has Three value) (says_same (v.stage.slots (v.stage.base + x.three)) (Has Three value) holds.three) (λ r ne. s2 r)

-- three loads by one vote
loads_carry : (words : List ℕ) (v : View) (x : Triple) (value p : ℕ) → IsView v → HoldsTriple v x value → StandsAll words p (fetch_slots x) → (p + 8) % 2 ^ 64 ≡ p + 8 →
    Carries words (Excepted WindowPoints words) (vote_words ++ LD 5 2 (pos (8 * x.one)) ∷ LD 6 2 (pos (8 * x.two)) ∷ LD 7 2 (pos (8 * x.three)) ∷ []) (at_address v p) (record (at_address v p) { pc = p + 20; regs = with_triple (regs_of v) value })
loads_carry words v x value p is holds stands room =
    let sp = slot_address v.stage.base in
    let c0 = voted v (p + 8) in
    let c1 = after_write (voted v (p + 8)) 5 (Has One value) (p + 12) in
    let c2 = after_write (after_write (voted v (p + 8)) 5 (Has One value) (p + 12)) 6 (Has Two value) (p + 16) in
    let two5 : 2 ≢ 5 = omega arith in
    let two6 : 2 ≢ 6 = omega arith in
    let n5 : 0 < 5 = omega arith in
    let n6 : 0 < 6 = omega arith in
    let n7 : 0 < 7 = omega arith in
    let right0 : c0.regs 2 ≡ Has Sure (slot_address v.stage.base) = with_register-same (regs_of v) 2 (Has Sure (slot_address v.stage.base)) in
    let right1 : c1.regs 2 ≡ Has Sure (slot_address v.stage.base) = with_register-other c0.regs 5 2 (Has One value) two5 ∙ right0 in
    let right2 : c2.regs 2 ≡ Has Sure (slot_address v.stage.base) = with_register-other c1.regs 6 2 (Has Two value) two6 ∙ right1 in
    let s0 = sures_voted v is in
    let s1 = sures_other c0.regs 5 (Has One value) (2 ∷ []) (one_unsure value) s0 in
    let s2 = sures_other c1.regs 6 (Has Two value) (2 ∷ []) (two_unsure value) s1 in
    let at0 : p + 8 + 4 * 0 ≡ p + 8 = omega arith in
    let at1 : p + 8 + 4 * 1 ≡ p + 12 = omega arith in
    let at2 : p + 8 + 4 * 2 ≡ p + 16 = omega arith in
    let Q : ℕ → Type 0 = λ q. IsWindowPoint words text_base q 2 in
    let w0 : IsWindowPoint words text_base (p + 8) 2 = subst Q at0 (window_loads words p x 0 (lit≤ tt) stands room) in
    let w1 : IsWindowPoint words text_base (p + 12) 2 = subst Q at1 (window_loads words p x 1 (lit≤ tt) stands room) in
    let w2 : IsWindowPoint words text_base (p + 16) 2 = subst Q at2 (window_loads words p x 2 (lit≤ tt) stands room) in
    let l5 = load_carries words (Excepted WindowPoints words) c0 5 2 (pos (8 * x.one)) (v.stage.base + x.one) (slot_after v c0 x.one p is holds.first right0 refl) n5 (covered (Excepted WindowPoints words) c0 (2 ∷ []) s0 (w0, tt)) in
    let l6 = load_carries words (Excepted WindowPoints words) c1 6 2 (pos (8 * x.two)) (v.stage.base + x.two) (slot_after v c1 x.two p is holds.second right1 refl) n6 (covered (Excepted WindowPoints words) c1 (2 ∷ []) s1 (w1, tt)) in
    let l7 = load_carries words (Excepted WindowPoints words) c2 7 2 (pos (8 * x.three)) (v.stage.base + x.three) (slot_after v c2 x.three p is holds.third right2 refl) n7 (covered (Excepted WindowPoints words) c2 (2 ∷ []) s2 (w2, tt)) in
    let e1 : p + 12 ≡ p + 8 + 4 = omega arith in
    let e2 : p + 16 ≡ p + 12 + 4 = omega arith in
    let e3 : p + 20 ≡ p + 16 + 4 = omega arith in
    let k5 = carries_less (knows_same c0) l5 (knows_regs c0 (p + 8 + 4) (p + 12) (with_register c0.regs 5 (v.stage.slots (v.stage.base + x.one))) c1.regs e1 (written_says c0.regs c0.regs 5 (v.stage.slots (v.stage.base + x.one)) (Has One value) (says_same (v.stage.slots (v.stage.base + x.one)) (Has One value) holds.one) (λ r ne. says_again (c0.regs r)))) in
    let k6 = carries_less (knows_same c1) l6 (knows_regs c0 (p + 12 + 4) (p + 16) (with_register c1.regs 6 (v.stage.slots (v.stage.base + x.two))) c2.regs e2 (written_says c1.regs c1.regs 6 (v.stage.slots (v.stage.base + x.two)) (Has Two value) (says_same (v.stage.slots (v.stage.base + x.two)) (Has Two value) holds.two) (λ r ne. says_again (c1.regs r)))) in
    let k7 = carries_less (knows_same c2) l7 (knows_regs c0 (p + 16 + 4) (p + 20) (with_register c2.regs 7 (v.stage.slots (v.stage.base + x.three))) (with_triple (regs_of v) value) e3 (loaded_less v x value holds)) in
    joined (vote_carries words v p is) (joined k5 (joined k6 k7))

-- x6 and x7 are used up, and x5 is right
fetched_less : (v : View) (value : ℕ) (q : ℕ) → SaysLess (with_register (with_triple (regs_of v) value) 5 (Has Sure value) q) (with_register (view_cell v.stage v.tag (with_value (with_value v.file 6 None) 7 None)) 5 (Has Sure value) q)
fetched_less v value =
    let less = view_cell v.stage v.tag (with_value (with_value v.file 6 None) 7 None) in
    written_says (with_triple (regs_of v) value) less 5 (Has Sure value) (Has Sure value) (says_again (Has Sure value)) (λ r ne. rest_less r ne)
  where
    rest_less : (r : ℕ) → r ≢ 5 → SaysLess (with_triple (regs_of v) value r) (view_cell v.stage v.tag (with_value (with_value v.file 6 None) 7 None) r)
    rest_less r ne =
        let r5 = with_register (regs_of v) 5 (Has One value) in
        let t0 = view_cell v.stage v.tag (with_value v.file 6 None) in
        let less = view_cell v.stage v.tag (with_value (with_value v.file 6 None) 7 None) in
        let swap : with_triple (regs_of v) value r ≡ with_register (with_register (regs_of v) 6 (Has Two value)) 7 (Has Three value) r = without_five (regs_of v) value r ne in
        let s6 : (q : ℕ) → SaysLess (with_register (regs_of v) 6 (Has Two value) q) (view_cell v.stage v.tag (with_value v.file 6 None) q) = scratch_written v 6 None (Has Two value) refl (says_free (Has Two value)) in
        let s7 : (q : ℕ) → SaysLess (with_register (view_cell v.stage v.tag (with_value v.file 6 None)) 7 (Has Three value) q) (view_cell v.stage v.tag (with_value (with_value v.file 6 None) 7 None) q) =
        scratch_written (with_scratch v 6 None) 7 None (Has Three value) refl (says_free (Has Three value)) in
        let both = written_says (with_register (regs_of v) 6 (Has Two value)) t0 7 (Has Three value) (Has Three value) (says_again (Has Three value)) (λ q ne. s6 q) r in
        rw swap (says_then (with_register (with_register (regs_of v) 6 (Has Two value)) 7 (Has Three value) r) (with_register t0 7 (Has Three value) r) (less r) both (s7 r))

pub fetch_slots_carries : (words : List ℕ) (v : View) (x : Triple) (value p : ℕ) → IsView v → HoldsTriple v x value → Carries words (Excepted WindowPoints words) (fetch_slots x) (at_address v p) (fetched v value (p + 28))
fetch_slots_carries words v x value p is holds =
    carries_placed words (Excepted WindowPoints words) (fetch_slots x) (at_address v p) (fetched v value (p + 28)) refl (λ placed. whole placed)
  where
    whole : IsPlaced words p (fetch_slots x) → Carries words (Excepted WindowPoints words) (fetch_slots x) (at_address v p) (fetched v value (p + 28))
    whole placed =
        let room : (p + 8) % 2 ^ 64 ≡ p + 8 = omega (arith, placed.room) in
        let c : Assertion = record (at_address v p) { pc = p + 20; regs = with_triple (regs_of v) value } in
        let a56 : 5 ≢ 6 = omega arith in
        let a57 : 5 ≢ 7 = omega arith in
        let a67 : 6 ≢ 7 = omega arith in
        let n5 : 0 < 5 = omega arith in
        let r5 = with_register (regs_of v) 5 (Has One value) in
        let r6 = with_register (with_register (regs_of v) 5 (Has One value)) 6 (Has Two value) in
        let one : with_triple (regs_of v) value 5 ≡ Has One value = with_register-other r6 7 5 (Has Three value) a57 ∙ with_register-other r5 6 5 (Has Two value) a56 ∙ with_register-same (regs_of v) 5 (Has One value) in
        let two : with_triple (regs_of v) value 6 ≡ Has Two value = with_register-other r6 7 6 (Has Three value) a67 ∙ with_register-same r5 6 (Has Two value) in
        let three : with_triple (regs_of v) value 7 ≡ Has Three value = with_register-same r6 7 (Has Three value) in
        let sures = sures_other r6 7 (Has Three value) [] (three_unsure value) (sures_other r5 6 (Has Two value) [] (two_unsure value) (sures_other (regs_of v) 5 (Has One value) [] (one_unsure value) (sures_view v is))) in
        let at : p + 28 ≡ p + 20 + 8 = omega arith in
        let check = copy_repairs words c 5 6 7 value (p + 20) (p + 28) one two three n5 refl at (covered (Excepted WindowPoints words) c [] sures tt) in
        joined (loads_carry words v x value p is holds placed.stands room)
        (carries_less (knows_same c) check (knows_regs c (p + 28) (p + 28) (with_register (with_triple (regs_of v) value) 5 (Has Sure value)) ((fetched v value (p + 28)).regs) refl (fetched_less v value)))

-- after the fetch x5 alone is kept for sure, and the word that uses it is a window point of it
pub fetched_covered : (words : List ℕ) (v : View) (x : Triple) (value p : ℕ) (j : Form) → IsView v → IsPlaced words p (fetch_slots x ++ j ∷ []) → IsTrue (reads j 5) → IsTrue (may_use 5 (BEQ 5 6 (pos 8)) j) →
    Covered (Excepted WindowPoints words) (fetched v value (p + 28))
fetched_covered words v x value p j is placed read used =
    let used_view = with_scratch (with_scratch v 6 None) 7 None in
    let still = scratch_kept (with_scratch v 6 None) 7 None (scratch_kept v 6 None is) in
    let sures = sures_sure (regs_of used_view) 5 value [] (sures_view used_view still) in
    let from : p + 4 + 4 + 4 + 4 + 4 ≡ p + 20 = omega arith in
    let to : p + 4 + 4 + 4 + 4 + 4 + 4 + 4 ≡ p + 28 = omega arith in
    let there : (p + 20 + 8) % 2 ^ 64 ≡ p + 28 = omega (arith, placed.room) in
    let at : p + 28 + 4 * 0 ≡ p + 28 = omega arith in
    let Q : ℕ → Type 0 = λ q. IsWindowPoint words text_base q 5 in
    let P : ℕ → Type 0 = λ q. Stands words q j × Unit {0} in
    let R : ℕ → Type 0 = λ q. Stands words q (BEQ 5 6 (pos 8)) in
    let window : IsWindowPoint words text_base (p + 28) 5 =
    subst Q at
    (window_after words (p + 20) (p + 28) 5 (BEQ 5 6 (pos 8)) [] j 0 (subst R from placed.stands.1.1.1.1.1.0) there (subst P to placed.stands.1.1.1.1.1.1.1) tt (lit≤ tt) (lit≤ tt) tt refl read used refl) in
    covered (Excepted WindowPoints words) (fetched v value (p + 28)) (5 ∷ []) sures (window, tt)
