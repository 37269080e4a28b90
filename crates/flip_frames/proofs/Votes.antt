-- The vote on the stack pointer, and near slots that are loaded and stored after it.
use Rattle.std.proofs.Common.{◌≡◌, ◌≢◌, ℕ, ◌+◌, ◌*◌, ◌%◌, ◌<◌, ◌^◌, true, List, [], ◌∷◌, ◌++◌, Option, refl, sym, ◌∙◌, ap, subst, arith, lit≤}
use Rattle.std.specs.Prelude.{pos, IsTrue}
use Rattle.rv_inst.specs.declared.instruction.Form.{Form}
use Rattle.rv_inst.specs.declared.instruction.Form.TheVariants.{ADDI, BEQ, LD, SD}
use Rattle.rv_inst.specs.Registers.{reads}
use Rattle.rv_inst.specs.Window.{IsWindowPoint, may_use}
use Rattle.rv_model.specs.State.{plus64}
use Rattle.rv_model.specs.Text.{text_base, Stands}
use Rattle.rv_flips.specs.Cells.{Sure, One, Cell, Has, SaysLess}
use Rattle.rv_flips.specs.Assertion.{Assertion, KnowsLess, with_register, after_write}
use Rattle.rv_flips.specs.Known.{Sures}
use Rattle.rv_flips.proofs.CellLemmas.{with_register-same, with_register-other, sure_says}
use Rattle.rv_flips.proofs.KnownRegisters.{covered, sures_sure}
use Rattle.flip_words.specs.Memory.{after_store}
use Rattle.flip_words.specs.Placed.{WindowPoints, AllPoints, Excepted, IsPlaced, Carries}
use Rattle.flip_words.specs.Joining.{promoted}
use Rattle.flip_words.specs.Words.{slot_address, IsSlotAddress}
use Rattle.flip_words.proofs.CarryLemmas.{joined, carries_less}
use Rattle.flip_words.proofs.LessLemmas.{says_again, knows_same, knows_regs, written_says, written_less, unpromoted, carries_placed}
use Rattle.flip_words.proofs.ComputeLaws.{copy_carries}
use Rattle.flip_words.proofs.CheckLaw.{check_carries}
use Rattle.flip_words.proofs.SlotLaws.{load_carries, store_carries}
use Rattle.flip_words.proofs.Windows.{window_after}
use Rattle.flip_frames.specs.Views.{View, IsView, Runs, is_scratch, version, view_cell, at_address, with_value, with_scratch}
use Rattle.flip_frames.specs.Slots.{vote_words, near_load, near_store, IsInData, with_slot}
use Rattle.flip_frames.proofs.ViewLemmas.{scratch_above, view_cell-two, view_cell-three, view_cell-four, view_cell-scratch, view_cell-file, with_value-same, with_value-other, sures_view, scratch_kept}
use Rattle.flip_frames.proofs.RunLaws.{covered_view}

-- the view after the vote
abbrev pub voted : View → ℕ → Assertion
voted v p = after_write (at_address v p) 2 (Has Sure (slot_address v.stage.base)) p

pub vote_carries : (words : List ℕ) (v : View) (p : ℕ) → IsView v → Carries words (Excepted WindowPoints words) vote_words (at_address v p) (voted v (p + 8))
vote_carries words v p is =
    let sp = slot_address v.stage.base in
    let c = at_address v p in
    let four : (promoted (at_address v p) (p + 4)).regs 4 ≡ Has Sure (slot_address v.stage.base) = rw (view_cell-four v.stage v.tag v.file) refl in
    let there : p + 8 ≡ p + 4 + 4 = omega arith in
    let P : Cell → Type 0 = λ cell. Carries words (Excepted AllPoints words) (ADDI 2 4 (pos 0) ∷ []) (promoted (at_address v p) (p + 4)) (after_write (promoted (at_address v p) (p + 4)) 2 cell (p + 4 + 4)) in
    let nonzero : 0 < 2 = omega arith in
    let repair : Carries words (Excepted AllPoints words) (ADDI 2 4 (pos 0) ∷ []) (promoted (at_address v p) (p + 4)) (after_write (promoted (at_address v p) (p + 4)) 2 (Has Sure (slot_address v.stage.base)) (p + 4 + 4)) =
    subst P four (copy_carries words (Excepted AllPoints words) (promoted (at_address v p) (p + 4)) 2 4 nonzero (λ r w e n. tt)) in
    check_carries words (Excepted WindowPoints words) c (voted v (p + 8)) 2 3 sp (ADDI 2 4 (pos 0) ∷ []) (view_cell-two v.stage v.tag v.file) (view_cell-three v.stage v.tag v.file) (covered_view words v p is)
    (knows_same (voted v (p + 8)))
    (carries_less (knows_same (promoted (at_address v p) (p + 4))) repair (unpromoted c (p + 4) (p + 4 + 4) 2 (Has Sure sp) (p + 8) there))

-- after the vote x2 alone is kept for sure
pub sures_voted : (v : View) → IsView v → Sures (with_register (view_cell v.stage v.tag v.file) 2 (Has Sure (slot_address v.stage.base))) (2 ∷ [])
sures_voted v is = sures_sure (view_cell v.stage v.tag v.file) 2 (slot_address v.stage.base) [] (sures_view v is)

-- the word after the vote, which uses x2, is a window point of it
window_voted : (words : List ℕ) (p : ℕ) (j : Form) → IsPlaced words p (vote_words ++ j ∷ []) → IsTrue (reads j 2) → IsTrue (may_use 2 (BEQ 2 3 (pos 8)) j) → IsWindowPoint words text_base (p + 8) 2
window_voted words p j placed read used =
    let there : (p + 8) % 2 ^ 64 ≡ p + 8 = omega (arith, placed.room) in
    let same : p + 4 + 4 ≡ p + 8 = omega arith in
    let at : p + 8 + 4 * 0 ≡ p + 8 = omega arith in
    let Q : ℕ → Type 0 = λ q. IsWindowPoint words text_base q 2 in
    let P : ℕ → Type 0 = λ q. Stands words q j × Unit {0} in
    subst Q at (window_after words p (p + 8) 2 (BEQ 2 3 (pos 8)) [] j 0 placed.stands.0 there (subst P same placed.stands.1.1) tt (lit≤ tt) (lit≤ tt) tt refl read used refl)

-- slot n is where the voted stack pointer leads
slot_there : (v : View) (p n : ℕ) → IsView v → IsInData v n → IsSlotAddress (voted v p) 2 (pos (8 * n)) (v.stage.base + n)
slot_there v p n is within =
    let leads : plus64 (slot_address v.stage.base) (8 * n) ≡ slot_address (v.stage.base + n) = omega (arith, is.size, is.base) in
    record { base = slot_address v.stage.base; right = with_register-same (view_cell v.stage v.tag v.file) 2 (Has Sure (slot_address v.stage.base)); leads = leads; within = within }

-- the vote is forgotten
vote_forgotten : (v : View) (q : ℕ) → SaysLess (with_register (view_cell v.stage v.tag v.file) 2 (Has Sure (slot_address v.stage.base)) q) (view_cell v.stage v.tag v.file q)
vote_forgotten v =
    written_less (view_cell v.stage v.tag v.file) (view_cell v.stage v.tag v.file) 2 (Has Sure (slot_address v.stage.base))
    (rw (view_cell-two v.stage v.tag v.file) (sure_says One (slot_address v.stage.base))) (λ r ne. says_again (view_cell v.stage v.tag v.file r))

-- after the load the vote is forgotten, and r holds the version
load_less : (v : View) (r : ℕ) (o : Option ℕ) (cell : Cell) (p q : ℕ) → is_scratch r ≡ true → cell ≡ version v.tag o → q ≡ p → KnowsLess (after_write (voted v p) r cell p) (at_address (with_scratch v r o) q)
load_less v r o cell p q scratch e at =
    let file = with_value v.file r o in
    let own : view_cell v.stage v.tag (with_value v.file r o) r ≡ version v.tag o =
    view_cell-scratch v.stage v.tag (with_value v.file r o) r scratch ∙ ap (version v.tag) (with_value-same v.file r o) in
    knows_regs (at_address v p) p q (with_register (with_register (view_cell v.stage v.tag v.file) 2 (Has Sure (slot_address v.stage.base))) r cell) (view_cell v.stage v.tag (with_value v.file r o)) at
    (written_less (with_register (view_cell v.stage v.tag v.file) 2 (Has Sure (slot_address v.stage.base))) (view_cell v.stage v.tag (with_value v.file r o)) r cell (rw (own, e) (says_again (version v.tag o)))
    (λ k ne. rw (← (view_cell-file v.stage v.tag v.file (with_value v.file r o) k (sym (with_value-other v.file r k o ne)))) (vote_forgotten v k)))

pub near_load_runs : (words : List ℕ) (v : View) (r n : ℕ) (o : Option ℕ) → is_scratch r ≡ true → IsInData v n → v.stage.slots (v.stage.base + n) ≡ version v.tag o → Runs words (near_load r n) v (with_scratch v r o)
near_load_runs words v r n o scratch within holds =
    record {
      carries = λ is p. carries_placed words (Excepted WindowPoints words) (near_load r n) (at_address v p) (at_address (with_scratch v r o) (p + 12)) refl (λ placed. whole is p placed);
      kept = scratch_kept v r o;
    }
  where
    whole : IsView v → (p : ℕ) → IsPlaced words p (near_load r n) → Carries words (Excepted WindowPoints words) (near_load r n) (at_address v p) (at_address (with_scratch v r o) (p + 12))
    whole is p placed =
        let above : 4 < r = scratch_above r scratch in
        let nonzero : 0 < r = omega arith in
        let there : p + 12 ≡ p + 8 + 4 = omega arith in
        let window : IsWindowPoint words text_base (p + 8) 2 = window_voted words p (LD r 2 (pos (8 * n))) placed refl refl in
        let load = load_carries words (Excepted WindowPoints words) (voted v (p + 8)) r 2 (pos (8 * n)) (v.stage.base + n) (slot_there v (p + 8) n is within) nonzero
        (covered (Excepted WindowPoints words) (voted v (p + 8)) (2 ∷ []) (sures_voted v is) (window, tt)) in
        joined (vote_carries words v p is) (carries_less (knows_same (voted v (p + 8))) load (load_less v r o (v.stage.slots (v.stage.base + n)) (p + 8 + 4) (p + 12) scratch holds there))

-- after the store the vote is forgotten, and the slot holds the version
store_less : (v : View) (r n : ℕ) (p q : ℕ) → is_scratch r ≡ true → q ≡ p → KnowsLess (after_store (voted v p) (v.stage.base + n) ((voted v p).regs r) p) (at_address (with_slot v n (v.file r)) q)
unfolding view_cell
store_less v r n p q scratch at =
    let above : 4 < r = scratch_above r scratch in
    let apart : r ≢ 2 = omega arith in
    let k = v.stage.base + n in
    let cell : with_register (view_cell v.stage v.tag v.file) 2 (Has Sure (slot_address v.stage.base)) r ≡ version v.tag (v.file r) =
    with_register-other (view_cell v.stage v.tag v.file) 2 r (Has Sure (slot_address v.stage.base)) apart ∙ view_cell-scratch v.stage v.tag v.file r scratch in
    record {
      pc = at;
      regs = vote_forgotten v;
      slots = written_says v.stage.slots v.stage.slots k (with_register (view_cell v.stage v.tag v.file) 2 (Has Sure (slot_address v.stage.base)) r) (version v.tag (v.file r)) (rw cell (says_again (version v.tag (v.file r)))) (λ q ne. says_again (v.stage.slots q));
      bytes = λ o x h. h;
      size = refl;
      input = refl;
      out = refl;
    }

pub slot_kept : (v : View) (n : ℕ) (o : Option ℕ) → IsView v → IsView (with_slot v n o)
slot_kept v n o is = record { tag = is.tag; places = is.places; size = is.size; base = is.base }

pub near_store_runs : (words : List ℕ) (v : View) (r n : ℕ) → is_scratch r ≡ true → IsInData v n → Runs words (near_store r n) v (with_slot v n (v.file r))
near_store_runs words v r n scratch within =
    record {
      carries = λ is p. carries_placed words (Excepted WindowPoints words) (near_store r n) (at_address v p) (at_address (with_slot v n (v.file r)) (p + 12)) refl (λ placed. whole is p placed);
      kept = slot_kept v n (v.file r);
    }
  where
    whole : IsView v → (p : ℕ) → IsPlaced words p (near_store r n) → Carries words (Excepted WindowPoints words) (near_store r n) (at_address v p) (at_address (with_slot v n (v.file r)) (p + 12))
    whole is p placed =
        let there : p + 12 ≡ p + 8 + 4 = omega arith in
        let window : IsWindowPoint words text_base (p + 8) 2 = window_voted words p (SD 2 r (pos (8 * n))) placed refl refl in
        let store = store_carries words (Excepted WindowPoints words) (voted v (p + 8)) 2 r (pos (8 * n)) (v.stage.base + n) (slot_there v (p + 8) n is within)
        (covered (Excepted WindowPoints words) (voted v (p + 8)) (2 ∷ []) (sures_voted v is) (window, tt)) in
        joined (vote_carries words v p is) (carries_less (knows_same (voted v (p + 8))) store (store_less v r n (p + 8 + 4) (p + 12) scratch there))
