-- Slots at any offset: the address is formed by two copies of the stack pointer and compared, else by the third.
use Rattle.std.proofs.Common.{◌≡◌, ◌≢◌, ℕ, ◌+◌, ◌*◌, ◌%◌, ◌<◌, ◌≤◌, ◌^◌, ◌==◌, inl, Bool, true, false, List, [], ◌∷◌, ◌++◌, Option, None, refl, sym, ◌∙◌, ap, subst, arith, lit≤}
use Rattle.std.specs.Prelude.{ℤ, pos, IsTrue}
use Rattle.std.proofs.lemmas.Bool.Decides.{nat_tests}
use Rattle.rv_inst.specs.declared.instruction.Form.{Form}
use Rattle.rv_inst.specs.declared.instruction.Form.TheVariants.{LUI, ADD, BEQ, LD, SD}
use Rattle.rv_inst.specs.Registers.{reads}
use Rattle.rv_inst.specs.Window.{IsWindowPoint, may_use}
use Rattle.rv_model.specs.State.{plus64}
use Rattle.rv_model.specs.Operations.{bits64, upper_value}
use Rattle.rv_model.specs.Text.{text_base, Stands}
use Rattle.rv_flips.specs.Cells.{Tag, Sure, One, Two, Three, Cell, Free, Has, SaysLess}
use Rattle.rv_flips.specs.Assertion.{Assertion, KnowsLess, with_register, after_write}
use Rattle.rv_flips.specs.Computing.{IsUncoded}
use Rattle.rv_flips.specs.Known.{Sures}
use Rattle.rv_flips.specs.Moves.{Covered}
use Rattle.rv_flips.proofs.CellLemmas.{with_register-same, with_register-other, with_register-twice, says_same, says_free}
use Rattle.rv_flips.proofs.KnownRegisters.{covered, sures_sure, sures_other}
use Rattle.flip_words.specs.Memory.{after_store}
use Rattle.flip_words.specs.Placed.{WindowPoints, AllPoints, Excepted, IsPlaced, Carries}
use Rattle.flip_words.specs.Joining.{promoted_cell, promoted}
use Rattle.flip_words.specs.Words.{slot_address, IsSlotAddress}
use Rattle.flip_words.proofs.CarryLemmas.{joined, carries_less}
use Rattle.flip_words.proofs.LessLemmas.{says_again, knows_same, knows_regs, promoted_says, written_says, written_less, carries_placed}
use Rattle.flip_words.proofs.ComputeLaws.{compute_carries, upper_carries}
use Rattle.flip_words.proofs.CheckLaw.{check_carries}
use Rattle.flip_words.proofs.SlotLaws.{load_carries, store_carries}
use Rattle.flip_words.proofs.Windows.{window_after}
use Rattle.flip_frames.specs.Views.{View, IsView, Runs, is_scratch, version, view_cell, at_address, with_value, with_scratch}
use Rattle.flip_frames.specs.Slots.{far_address, far_load, far_store, far_view, IsOffset, IsInData, with_slot}
use Rattle.flip_frames.proofs.ViewLemmas.{scratch_above, view_cell-two, view_cell-three, view_cell-four, view_cell-scratch, view_cell-file, with_value-same, with_value-other, sures_view, scratch_kept}
use Rattle.flip_frames.proofs.Votes.{slot_kept}

-- the stack pointer with the upper part added
abbrev pub far_base : View → ℤ → ℕ
far_base v high = plus64 (upper_value high) (slot_address v.stage.base)

abbrev regs_of : View → ℕ → Cell
regs_of v = view_cell v.stage v.tag v.file

-- two copies of the address stand in x28 and x29
abbrev two_copies : View → ℤ → ℕ → Cell
two_copies v high = with_register (with_register (regs_of v) 28 (Has One (far_base v high))) 29 (Has Two (far_base v high))

abbrev copied : View → ℤ → ℕ → Assertion
copied v high p = record (at_address v p) { pc = p; regs = two_copies v high }

-- a place that is written twice says what its second cell says
twice_less : (regs : ℕ → Cell) (d : ℕ) (one two : Cell) (r : ℕ) → SaysLess (with_register (with_register regs d one) d two r) (with_register regs d two r)
twice_less regs d one two r = says_same (with_register (with_register regs d one) d two r) (with_register regs d two r) (with_register-twice regs d r one two)

-- one copy of the address comes into d, by the copy of the stack pointer in b with its tag
copy_address : (words : List ℕ) (listed : ℕ → ℕ → Type 0) (c : Assertion) (d b : ℕ) (high : ℤ) (tag : Tag) (sp : ℕ) → IsUncoded tag → 0 < d → b ≢ d → c.regs b ≡ Has tag sp → Covered listed c →
    Covered listed (after_write c d (Has tag (upper_value high)) (c.pc + 4)) → Carries words listed (LUI d high ∷ ADD d d b ∷ []) c (after_write c d (Has tag (plus64 (upper_value high) sp)) (c.pc + 8))
copy_address words listed c d b high tag sp uncoded nonzero apart has covered1 covered2 =
    let u = upper_value high in
    let c1 = after_write c d (Has tag (upper_value high)) (c.pc + 4) in
    let own : c1.regs d ≡ Has tag (upper_value high) = with_register-same c.regs d (Has tag (upper_value high)) in
    let other : c1.regs b ≡ Has tag sp = with_register-other c.regs d b (Has tag (upper_value high)) apart ∙ has in
    let there : c.pc + 8 ≡ c.pc + 4 + 4 = omega arith in
    let sum = compute_carries words listed c1 (ADD d d b) tag u sp (inl own, inl other) uncoded nonzero covered2 in
    joined (upper_carries words listed c d high tag nonzero covered1)
    (carries_less (knows_same c1) sum
    (knows_regs c (c.pc + 4 + 4) (c.pc + 8) (with_register (with_register c.regs d (Has tag u)) d (Has tag (plus64 u sp))) (with_register c.regs d (Has tag (plus64 u sp))) there
    (twice_less c.regs d (Has tag u) (Has tag (plus64 u sp)))))

one_unsure : (v w : ℕ) → Has One v ≡ Has Sure w → ⊥
one_unsure v w e = cc

two_unsure : (v w : ℕ) → Has Two v ≡ Has Sure w → ⊥
two_unsure v w e = cc

-- while no register is kept for sure nothing needs to be left out
covered_none : (words : List ℕ) (c : Assertion) → Sures c.regs [] → Covered (Excepted WindowPoints words) c
covered_none words c sures = covered (Excepted WindowPoints words) c [] sures tt

-- both copies of the address
copies_carry : (words : List ℕ) (v : View) (high : ℤ) (p : ℕ) → IsView v → Carries words (Excepted WindowPoints words) (LUI 28 high ∷ ADD 28 28 2 ∷ LUI 29 high ∷ ADD 29 29 3 ∷ []) (at_address v p) (copied v high (p + 16))
copies_carry words v high p is =
    let sp = slot_address v.stage.base in
    let u = upper_value high in
    let a = far_base v high in
    let c0 = at_address v p in
    let c2 = after_write (at_address v p) 28 (Has One (far_base v high)) (p + 8) in
    let s0 = sures_view v is in
    let s1 = sures_other (regs_of v) 28 (Has One u) [] (one_unsure u) s0 in
    let s2 = sures_other (regs_of v) 28 (Has One a) [] (one_unsure a) s0 in
    let s3 = sures_other c2.regs 29 (Has Two u) [] (two_unsure u) s2 in
    let n28 : 0 < 28 = omega arith in
    let n29 : 0 < 29 = omega arith in
    let a2 : 2 ≢ 28 = omega arith in
    let a3 : 3 ≢ 29 = omega arith in
    let b3 : 3 ≢ 28 = omega arith in
    let there : p + 16 ≡ p + 8 + 8 = omega arith in
    let three : c2.regs 3 ≡ Has Two (slot_address v.stage.base) = with_register-other (regs_of v) 28 3 (Has One (far_base v high)) b3 ∙ view_cell-three v.stage v.tag v.file in
    let first = copy_address words (Excepted WindowPoints words) c0 28 2 high One sp tt n28 a2 (view_cell-two v.stage v.tag v.file) (covered_none words c0 s0) (covered_none words (after_write c0 28 (Has One u) (p + 4)) s1) in
    let second = copy_address words (Excepted WindowPoints words) c2 29 3 high Two sp tt n29 a3 three (covered_none words c2 s2) (covered_none words (after_write c2 29 (Has Two u) (p + 8 + 4)) s3) in
    joined first (carries_less (knows_same c2) second (knows_regs c0 (p + 8 + 8) (p + 16) (two_copies v high) (two_copies v high) there (λ r. says_again (two_copies v high r))))

-- the right address stands in x28
abbrev found : View → ℤ → ℕ → Assertion
found v high p = record (at_address v p) { pc = p; regs = with_register (two_copies v high) 28 (Has Sure (far_base v high)) }

-- the repair makes it of the third copy
repair_carries : (words : List ℕ) (v : View) (high : ℤ) (p : ℕ) → Carries words (Excepted AllPoints words) (LUI 28 high ∷ ADD 28 28 4 ∷ []) (promoted (copied v high p) (p + 4)) (found v high (p + 12))
repair_carries words v high p =
    let sp = slot_address v.stage.base in
    let a = far_base v high in
    let c = promoted (copied v high p) (p + 4) in
    let n28 : 0 < 28 = omega arith in
    let a4 : 4 ≢ 28 = omega arith in
    let b4 : 4 ≢ 29 = omega arith in
    let was : two_copies v high 4 ≡ Has Three (slot_address v.stage.base) =
    with_register-other (with_register (regs_of v) 28 (Has One (far_base v high))) 29 4 (Has Two (far_base v high)) b4 ∙ with_register-other (regs_of v) 28 4 (Has One (far_base v high)) a4 ∙ view_cell-four v.stage v.tag v.file in
    let four : c.regs 4 ≡ Has Sure (slot_address v.stage.base) = ap promoted_cell was in
    let there : p + 12 ≡ p + 4 + 8 = omega arith in
    carries_less (knows_same c)
    (copy_address words (Excepted AllPoints words) c 28 4 high Sure sp tt n28 a4 four (λ r w e n. tt) (λ r w e n. tt))
    (record {
      pc = there;
      regs = written_says (λ r. promoted_cell (two_copies v high r)) (two_copies v high) 28 (Has Sure a) (Has Sure a) (says_again (Has Sure a)) (λ r ne. promoted_says (two_copies v high r));
      slots = λ k. promoted_says (v.stage.slots k);
      bytes = λ o x h. h;
      size = refl;
      input = refl;
      out = refl;
    })

-- the copies are compared
found_carries : (words : List ℕ) (v : View) (high : ℤ) (p : ℕ) → IsView v → Carries words (Excepted WindowPoints words) (far_address high) (at_address v p) (found v high (p + 28))
found_carries words v high p is =
    let a = far_base v high in
    let s0 = sures_view v is in
    let s1 = sures_other (regs_of v) 28 (Has One a) [] (one_unsure a) s0 in
    let s2 = sures_other (with_register (regs_of v) 28 (Has One a)) 29 (Has Two a) [] (two_unsure a) s1 in
    let apart : 28 ≢ 29 = omega arith in
    let one : two_copies v high 28 ≡ Has One (far_base v high) = with_register-other (with_register (regs_of v) 28 (Has One (far_base v high))) 29 28 (Has Two (far_base v high)) apart ∙ with_register-same (regs_of v) 28 (Has One (far_base v high)) in
    let two : two_copies v high 29 ≡ Has Two (far_base v high) = with_register-same (with_register (regs_of v) 28 (Has One (far_base v high))) 29 (Has Two (far_base v high)) in
    let there : p + 28 ≡ p + 16 + 12 = omega arith in
    let same = knows_regs (at_address v p) (p + 16 + 12) (p + 28) ((found v high p).regs) ((found v high p).regs) there (λ r. says_again ((found v high p).regs r)) in
    joined (copies_carry words v high p is)
    (check_carries words (Excepted WindowPoints words) (copied v high (p + 16)) (found v high (p + 28)) 28 29 a (LUI 28 high ∷ ADD 28 28 4 ∷ []) one two (covered_none words (copied v high (p + 16)) s2) same
    (carries_less (knows_same (promoted (copied v high (p + 16)) (p + 16 + 4))) (repair_carries words v high (p + 16)) same))

-- then x28 alone is kept for sure, and the word that uses it is a window point of it
sures_found : (v : View) (high : ℤ) → IsView v → Sures (with_register (two_copies v high) 28 (Has Sure (far_base v high))) (28 ∷ [])
sures_found v high is =
    let a = far_base v high in
    sures_sure (two_copies v high) 28 a []
    (sures_other (with_register (regs_of v) 28 (Has One a)) 29 (Has Two a) [] (two_unsure a) (sures_other (regs_of v) 28 (Has One a) [] (one_unsure a) (sures_view v is)))

window_found : (words : List ℕ) (p : ℕ) (high : ℤ) (j : Form) → IsPlaced words p (far_address high ++ j ∷ []) → IsTrue (reads j 28) → IsTrue (may_use 28 (BEQ 28 29 (pos 12)) j) → IsWindowPoint words text_base (p + 28) 28
window_found words p high j placed read used =
    let from : p + 4 + 4 + 4 + 4 ≡ p + 16 = omega arith in
    let there : (p + 16 + 12) % 2 ^ 64 ≡ p + 28 = omega (arith, placed.room) in
    let same : p + 4 + 4 + 4 + 4 + 4 + 4 + 4 ≡ p + 28 = omega arith in
    let at : p + 28 + 4 * 0 ≡ p + 28 = omega arith in
    let Q : ℕ → Type 0 = λ q. IsWindowPoint words text_base q 28 in
    let P : ℕ → Type 0 = λ q. Stands words q j × Unit {0} in
    let R : ℕ → Type 0 = λ q. Stands words q (BEQ 28 29 (pos 12)) in
    subst Q at
    (window_after words (p + 16) (p + 28) 28 (BEQ 28 29 (pos 12)) [] j 0 (subst R from placed.stands.1.1.1.1.0) there (subst P same placed.stands.1.1.1.1.1.1.1) tt (lit≤ tt) (lit≤ tt) tt refl read used refl)

-- slot n is where the address leads
far_there : (v : View) (high low : ℤ) (p n : ℕ) → IsView v → IsInData v n → IsOffset high low n → IsSlotAddress (found v high p) 28 low (v.stage.base + n)
far_there v high low p n is within offset =
    let leads : plus64 (plus64 (upper_value high) (slot_address v.stage.base)) (bits64 low) ≡ slot_address (v.stage.base + n) = far_sum (upper_value high) (bits64 low) v.stage.base n (omega (arith, is.size)) offset in
    record { base = far_base v high; right = with_register-same (two_copies v high) 28 (Has Sure (far_base v high)); leads = leads; within = within }
  where
    far_sum : (u l b k : ℕ) → 8 * (b + k) + 8 ≤ 0x4000_0000 → plus64 u l ≡ 8 * k → plus64 (plus64 u (slot_address b)) l ≡ slot_address (b + k)
    far_sum u l b k small e = omega arith

-- the values when x28 and x29 are used up
abbrev used_up : View → ℕ → Option ℕ
used_up v = with_value (with_value v.file 28 None) 29 None

used_up-first : (v : View) → used_up v 28 ≡ None
used_up-first v = let apart : 28 ≢ 29 = omega arith in with_value-other (with_value v.file 28 None) 29 28 None apart ∙ with_value-same v.file 28 None

used_up-second : (v : View) → used_up v 29 ≡ None
used_up-second v = with_value-same (with_value v.file 28 None) 29 None

used_up-other : (v : View) (r : ℕ) → r ≢ 28 → r ≢ 29 → used_up v r ≡ v.file r
used_up-other v r ne ne' = with_value-other (with_value v.file 28 None) 29 r None ne' ∙ with_value-other v.file 28 r None ne

-- a cell that says nothing is said by each other
says_nothing : (cell less : Cell) → less ≡ Free → SaysLess cell less
says_nothing cell less e = rw e (says_free cell)

used_cells : (v : View) (r : ℕ) → r ≢ 28 → SaysLess (regs_of v r) (view_cell v.stage v.tag (used_up v) r)
used_cells v r ne = by_place (r == 29) refl
  where
    by_place : (b : Bool) → (r == 29) ≡ b → SaysLess (regs_of v r) (view_cell v.stage v.tag (used_up v) r)
    by_place true e =
        let same : 29 ≡ r = grind (arith, nat_tests) in
        let P : ℕ → Type 0 = λ q. SaysLess (regs_of v q) (view_cell v.stage v.tag (used_up v) q) in
        subst P same (says_nothing (regs_of v 29) (view_cell v.stage v.tag (used_up v) 29) (view_cell-scratch v.stage v.tag (used_up v) 29 refl ∙ ap (version v.tag) (used_up-second v)))
    by_place false e =
        let other : r ≢ 29 = grind (arith, nat_tests) in
        says_same (regs_of v r) (view_cell v.stage v.tag (used_up v) r) (view_cell-file v.stage v.tag v.file (used_up v) r (sym (used_up-other v r ne other)))

forgotten : (v : View) (high : ℤ) (q : ℕ) → SaysLess (with_register (two_copies v high) 28 (Has Sure (far_base v high)) q) (view_cell v.stage v.tag (used_up v) q)
forgotten v high =
    let a = far_base v high in
    let less = view_cell v.stage v.tag (used_up v) in
    let first : view_cell v.stage v.tag (used_up v) 28 ≡ Free = view_cell-scratch v.stage v.tag (used_up v) 28 refl ∙ ap (version v.tag) (used_up-first v) in
    let second : view_cell v.stage v.tag (used_up v) 29 ≡ Free = view_cell-scratch v.stage v.tag (used_up v) 29 refl ∙ ap (version v.tag) (used_up-second v) in
    let inner = written_less (regs_of v) less 28 (Has One a) (says_nothing (Has One a) (less 28) first) (used_cells v) in
    let middle = written_less (with_register (regs_of v) 28 (Has One a)) less 29 (Has Two a) (says_nothing (Has Two a) (less 29) second) (λ r ne. inner r) in
    written_less (two_copies v high) less 28 (Has Sure a) (says_nothing (Has Sure a) (less 28) first) (λ r ne. middle r)

-- after the load r holds the version, and the address is forgotten
load_less : (v : View) (high : ℤ) (r : ℕ) (o : Option ℕ) (cell : Cell) (p q : ℕ) → is_scratch r ≡ true → cell ≡ version v.tag o → q ≡ p → KnowsLess (after_write (found v high p) r cell p) (at_address (with_scratch (far_view v) r o) q)
load_less v high r o cell p q scratch e at =
    let file = with_value (used_up v) r o in
    let own : view_cell v.stage v.tag (with_value (used_up v) r o) r ≡ version v.tag o =
    view_cell-scratch v.stage v.tag (with_value (used_up v) r o) r scratch ∙ ap (version v.tag) (with_value-same (used_up v) r o) in
    knows_regs (at_address v p) p q (with_register (with_register (two_copies v high) 28 (Has Sure (far_base v high))) r cell) (view_cell v.stage v.tag (with_value (used_up v) r o)) at
    (written_less (with_register (two_copies v high) 28 (Has Sure (far_base v high))) (view_cell v.stage v.tag (with_value (used_up v) r o)) r cell (rw (own, e) (says_again (version v.tag o)))
    (λ k ne. rw (← (view_cell-file v.stage v.tag (used_up v) (with_value (used_up v) r o) k (sym (with_value-other (used_up v) r k o ne)))) (forgotten v high k)))

far_kept : (v : View) → IsView v → IsView (far_view v)
far_kept v is = record { tag = is.tag; places = is.places; size = is.size; base = is.base }

pub far_load_runs : (words : List ℕ) (v : View) (r n : ℕ) (high low : ℤ) (o : Option ℕ) → is_scratch r ≡ true → IsInData v n → IsOffset high low n → v.stage.slots (v.stage.base + n) ≡ version v.tag o → Runs words (far_load r high low) v (with_scratch (far_view v) r o)
far_load_runs words v r n high low o scratch within offset holds =
    record {
      carries = λ is p. carries_placed words (Excepted WindowPoints words) (far_load r high low) (at_address v p) (at_address (with_scratch (far_view v) r o) (p + 32)) refl (λ placed. whole is p placed);
      kept = λ is. scratch_kept (far_view v) r o (far_kept v is);
    }
  where
    whole : IsView v → (p : ℕ) → IsPlaced words p (far_load r high low) → Carries words (Excepted WindowPoints words) (far_load r high low) (at_address v p) (at_address (with_scratch (far_view v) r o) (p + 32))
    whole is p placed =
        let above : 4 < r = scratch_above r scratch in
        let nonzero : 0 < r = omega arith in
        let there : p + 32 ≡ p + 28 + 4 = omega arith in
        let window : IsWindowPoint words text_base (p + 28) 28 = window_found words p high (LD r 28 low) placed refl refl in
        let load = load_carries words (Excepted WindowPoints words) (found v high (p + 28)) r 28 low (v.stage.base + n) (far_there v high low (p + 28) n is within offset) nonzero
        (covered (Excepted WindowPoints words) (found v high (p + 28)) (28 ∷ []) (sures_found v high is) (window, tt)) in
        joined (found_carries words v high p is) (carries_less (knows_same (found v high (p + 28))) load (load_less v high r o (v.stage.slots (v.stage.base + n)) (p + 28 + 4) (p + 32) scratch holds there))

-- after the store the slot holds the version
store_less : (v : View) (high : ℤ) (r n : ℕ) (p q : ℕ) → is_scratch r ≡ true → r ≢ 28 → r ≢ 29 → q ≡ p → KnowsLess (after_store (found v high p) (v.stage.base + n) ((found v high p).regs r) p) (at_address (with_slot (far_view v) n (v.file r)) q)
unfolding view_cell
store_less v high r n p q scratch ne ne' at =
    let a = far_base v high in
    let k = v.stage.base + n in
    let cell : with_register (two_copies v high) 28 (Has Sure (far_base v high)) r ≡ version v.tag (v.file r) =
    with_register-other (two_copies v high) 28 r (Has Sure a) ne ∙ with_register-other (with_register (regs_of v) 28 (Has One a)) 29 r (Has Two a) ne' ∙ with_register-other (regs_of v) 28 r (Has One a) ne
    ∙ view_cell-scratch v.stage v.tag v.file r scratch in
    record {
      pc = at;
      regs = forgotten v high;
      slots = written_says v.stage.slots v.stage.slots k (with_register (two_copies v high) 28 (Has Sure (far_base v high)) r) (version v.tag (v.file r)) (rw cell (says_again (version v.tag (v.file r)))) (λ q ne. says_again (v.stage.slots q));
      bytes = λ o x h. h;
      size = refl;
      input = refl;
      out = refl;
    }

pub far_store_runs : (words : List ℕ) (v : View) (r n : ℕ) (high low : ℤ) → is_scratch r ≡ true → r ≢ 28 → r ≢ 29 → IsInData v n → IsOffset high low n → Runs words (far_store r high low) v (with_slot (far_view v) n (v.file r))
far_store_runs words v r n high low scratch ne ne' within offset =
    record {
      carries = λ is p. carries_placed words (Excepted WindowPoints words) (far_store r high low) (at_address v p) (at_address (with_slot (far_view v) n (v.file r)) (p + 32)) refl (λ placed. whole is p placed);
      kept = λ is. slot_kept (far_view v) n (v.file r) (far_kept v is);
    }
  where
    whole : IsView v → (p : ℕ) → IsPlaced words p (far_store r high low) → Carries words (Excepted WindowPoints words) (far_store r high low) (at_address v p) (at_address (with_slot (far_view v) n (v.file r)) (p + 32))
    whole is p placed =
        let there : p + 32 ≡ p + 28 + 4 = omega arith in
        let window : IsWindowPoint words text_base (p + 28) 28 = window_found words p high (SD 28 r low) placed refl refl in
        let store = store_carries words (Excepted WindowPoints words) (found v high (p + 28)) 28 r low (v.stage.base + n) (far_there v high low (p + 28) n is within offset)
        (covered (Excepted WindowPoints words) (found v high (p + 28)) (28 ∷ []) (sures_found v high is) (window, tt)) in
        joined (found_carries words v high p is) (carries_less (knows_same (found v high (p + 28))) store (store_less v high r n (p + 28 + 4) (p + 32) scratch ne ne' there))
