-- Calls and returns: the return address on its way to its slot and back.
use Rattle.std.proofs.Common.{◌≡◌, ◌≢◌, ℕ, ◌+◌, ◌*◌, ◌/◌, ◌%◌, ◌<◌, ◌≤◌, ◌^◌, ◌⊎◌, inl, inr, List, [], ◌∷◌, ◌++◌, length, Option, refl, sym, ◌∙◌, ap, subst, arith, length-append, lit≤, lit<}
use Rattle.std.specs.Prelude.{ℤ, pos, IsTrue, Any}
use Rattle.std.proofs.lemmas.List.Elements.{All-nil, All-cons}
use Rattle.rv_inst.specs.declared.instruction.Form.TheVariants.{BEQ, LD, SD, JAL, JALR}
use Rattle.rv_inst.specs.Window.{IsWindowPoint, passes}
use Rattle.rv_model.specs.State.{plus64}
use Rattle.rv_model.specs.Text.{text_base, Stands, StandsAll}
use Rattle.rv_flips.specs.Cells.{Sure, One, Two, Three, Cell, Free, Has, SaysLess}
use Rattle.rv_flips.specs.Assertion.{Assertion, KnowsLess, with_register, after_write}
use Rattle.rv_flips.specs.Moves.{Moves}
use Rattle.rv_flips.proofs.CellLemmas.{with_register-same, with_register-other, says_same, says_free, sure_says}
use Rattle.rv_flips.proofs.KnownRegisters.{covered, sures_sure}
use Rattle.rv_flips.proofs.MoveLemmas.{moves_then, moves_weaker}
use Rattle.rv_flips.proofs.Windows.{place_of, stands_place}
use Rattle.rv_flips.proofs.WordLaws.{meets_less}
use Rattle.flip_words.specs.Memory.{without_bytes}
use Rattle.flip_words.specs.Placed.{WindowPoints, Excepted, IsPlaced, Carries}
use Rattle.flip_words.specs.Words.{slot_address, IsSlotAddress}
use Rattle.flip_words.proofs.CarryLemmas.{joined, carries_less, placed_front, placed_back}
use Rattle.flip_words.proofs.LessLemmas.{says_again, knows_same, knows_regs, written_says, written_less}
use Rattle.flip_words.proofs.SlotLaws.{load_carries, store_carries}
use Rattle.flip_words.proofs.Windows.{window_after}
use Rattle.flip_frames.specs.Views.{Stage, IsView, Runs, view_cell, no_values, at_address}
use Rattle.flip_frames.specs.Slots.{near_load, IsInData}
use Rattle.flip_frames.proofs.ViewLemmas.{view_cell-two, view_cell-three, view_cell-four, sures_view}
use Rattle.flip_frames.proofs.RunLaws.{runs_then, covered_view}
use Rattle.flip_frames.proofs.Fetches.{copy_repairs}
use Rattle.flip_versions.specs.Operations.{resting}
use Rattle.flip_jumps.specs.Jumps.{target}
use Rattle.flip_jumps.specs.Places.{Goes}
use Rattle.flip_jumps.proofs.JumpWords.{link_moves, register_jump_moves}
use Rattle.flip_jumps.proofs.PlaceLaws.{goes_then, runs_go}
use Rattle.flip_copies.specs.Copies.{Copy, copies_words, CanCopy, Compatible, copied, AreSet, IsBesideAll, SameWhere}
use Rattle.flip_copies.proofs.CopyLaws.{copy_lists_run, goals_are_set, bytes_other, rest_stays}
use Rattle.flip_calls.specs.Frames.{frame_down, based_at}
use Rattle.flip_calls.specs.Calls.{entry_words, linked_back, call_words, jump_of, back_of, called, IsCall, SparesSlot, AreInside, return_words, after_words}
use Rattle.flip_calls.proofs.FrameLaws.{frames_go_down, frames_go_up}

-- what the registers hold between sequences
abbrev resting_regs : Stage → ℕ → Cell
resting_regs g = view_cell g One no_values

link_register : (g : Stage) → view_cell g One no_values 1 ≡ g.places 1
unfolding view_cell
link_register g = refl

-- x1 is forgotten, and then the vote is
link_forgotten : (g : Stage) (back : ℕ) → g.places 1 ≡ Free → (q : ℕ) → SaysLess (with_register (resting_regs g) 1 (Has Sure back) q) (resting_regs g q)
link_forgotten g back free =
    written_less (resting_regs g) (resting_regs g) 1 (Has Sure back) (rw (link_register g, free) (says_free (Has Sure back))) (λ r ne. says_again (resting_regs g r))

voted_forgotten : (g : Stage) (regs : ℕ → Cell) → ((q : ℕ) → SaysLess (regs q) (resting_regs g q)) → (q : ℕ) → SaysLess (with_register regs 2 (Has Sure (slot_address g.base)) q) (resting_regs g q)
voted_forgotten g regs says =
    written_less regs (resting_regs g) 2 (Has Sure (slot_address g.base)) (rw (view_cell-two g One no_values) (sure_says One (slot_address g.base))) (λ r ne. says r)

-- from the jump over the vote to the store, x1 is on a quiet path

entry_path : (words : List ℕ) (p q m a : ℕ) (offset : ℤ) → Stands words p (JAL 1 offset) → target p offset ≡ q → StandsAll words q (entry_words m) → (q + 8) % 2 ^ 64 ≡ q + 8 → (a ≡ q + 8) ⊎ (a ≡ q) → IsWindowPoint words text_base a 1
entry_path words p q m a offset jump there stands room at =
    let over : q + 4 + 4 ≡ q + 8 = omega arith in
    let P : ℕ → Type 0 = λ x. Stands words x (SD 2 1 (pos (8 * m))) in
    record {
      from = p;
      first = JAL 1 offset;
      between = place_of q (BEQ 2 3 (pos 8)) ∷ [];
      to = q + 8;
      last = SD 2 1 (pos (8 * m));
      quiet = (stands_place words p (JAL 1 offset) jump, there, (stands_place words q (BEQ 2 3 (pos 8)) stands.0, room, stands_place words (q + 8) (SD 2 1 (pos (8 * m))) (subst P over stands.1.1.0)));
      short = lit≤ tt;
      on_path = by_place at;
      let_pass = All-cons (λ x. IsTrue (passes 1 (JAL 1 offset) x.instruction)) (place_of q (BEQ 2 3 (pos 8))) [] refl (All-nil (λ x. IsTrue (passes 1 (JAL 1 offset) x.instruction)));
      brought = refl;
      read = refl;
      used = refl;
      window = refl;
    }
  where
    by_place : (a ≡ q + 8) ⊎ (a ≡ q) → (a ≡ q + 8) ⊎ Any (λ x. x.address ≡ a) (place_of q (BEQ 2 3 (pos 8)) ∷ [])
    by_place (inl e) = inl e
    by_place (inr e) = inr (0, place_of q (BEQ 2 3 (pos 8)), lit< tt, refl, sym e)

-- the voted stack pointer leads to slot m
slot_at : (g : Stage) (c : Assertion) (m : ℕ) → IsView (resting g One) → IsInData (resting g One) m → c.regs 2 ≡ Has Sure (slot_address g.base) → c.size ≡ g.size → IsSlotAddress c 2 (pos (8 * m)) (g.base + m)
slot_at g c m is within right size =
    let leads : plus64 (slot_address g.base) (8 * m) ≡ slot_address (g.base + m) = omega (arith, is.size, is.base) in
    let fits : 8 * (g.base + m) + 8 ≤ c.size = omega arith in
    record { base = slot_address g.base; right = right; leads = leads; within = fits }

-- after the store x1 and the vote are forgotten
store_less : (g : Stage) (m back p q : ℕ) → g.places 1 ≡ Free → q ≡ p →
    KnowsLess (record (at_address (resting g One) p) { regs = with_register (with_register (resting_regs g) 1 (Has Sure back)) 2 (Has Sure (slot_address g.base)); slots = with_register g.slots (g.base + m) (with_register (with_register (resting_regs g) 1 (Has Sure back)) 2 (Has Sure (slot_address g.base)) 1); bytes = without_bytes g.bytes (g.base + m) })
    (at_address (resting (linked_back g m back) One) q)
unfolding view_cell
store_less g m back p q free at =
    let apart : 1 ≢ 2 = omega arith in
    let cell : with_register (with_register (resting_regs g) 1 (Has Sure back)) 2 (Has Sure (slot_address g.base)) 1 ≡ Has Sure back =
    with_register-other (with_register (resting_regs g) 1 (Has Sure back)) 2 1 (Has Sure (slot_address g.base)) apart ∙ with_register-same (resting_regs g) 1 (Has Sure back) in
    record {
      pc = at;
      regs = voted_forgotten g (with_register (resting_regs g) 1 (Has Sure back)) (link_forgotten g back free);
      slots = written_says g.slots g.slots (g.base + m) (with_register (with_register (resting_regs g) 1 (Has Sure back)) 2 (Has Sure (slot_address g.base)) 1) (Has Sure back) (rw cell (says_again (Has Sure back))) (λ k ne. says_again (g.slots k));
      bytes = λ o x h. h;
      size = refl;
      input = refl;
      out = refl;
    }

-- the entry, from where the jump has come to it
entry_carries : (words : List ℕ) (g : Stage) (p q m : ℕ) (offset : ℤ) → IsView (resting g One) → g.places 1 ≡ Free → IsInData (resting g One) m → Stands words p (JAL 1 offset) → target p offset ≡ q → IsPlaced words q (entry_words m) →
    Carries words (Excepted WindowPoints words) (entry_words m) (after_write (at_address (resting g One) p) 1 (Has Sure (p + 4)) q) (at_address (resting (linked_back g m (p + 4)) One) (q + 12))
entry_carries words g p q m offset is free within jump there placed =
    let sp = slot_address g.base in
    let back = p + 4 in
    let c1 = after_write (at_address (resting g One) p) 1 (Has Sure (p + 4)) q in
    let c2 = after_write c1 2 (Has Sure (slot_address g.base)) (q + 8) in
    let a21 : 2 ≢ 1 = omega arith in
    let a31 : 3 ≢ 1 = omega arith in
    let a41 : 4 ≢ 1 = omega arith in
    let n2 : 0 < 2 = omega arith in
    let room : (q + 8) % 2 ^ 64 ≡ q + 8 = omega (arith, placed.room) in
    let two : c1.regs 2 ≡ Has One (slot_address g.base) = with_register-other (resting_regs g) 1 2 (Has Sure back) a21 ∙ view_cell-two g One no_values in
    let three : c1.regs 3 ≡ Has Two (slot_address g.base) = with_register-other (resting_regs g) 1 3 (Has Sure back) a31 ∙ view_cell-three g One no_values in
    let four : c1.regs 4 ≡ Has Three (slot_address g.base) = with_register-other (resting_regs g) 1 4 (Has Sure back) a41 ∙ view_cell-four g One no_values in
    let s1 = sures_sure (resting_regs g) 1 back [] (sures_view (resting g One) is) in
    let s2 = sures_sure c1.regs 2 sp (1 ∷ []) s1 in
    let w1 = entry_path words p q m q offset jump there placed.stands room (inr refl) in
    let w1' = entry_path words p q m (q + 8) offset jump there placed.stands room (inl refl) in
    let over : q + 4 + 4 ≡ q + 8 = omega arith in
    let at : q + 8 + 4 * 0 ≡ q + 8 = omega arith in
    let Q : ℕ → Type 0 = λ a. IsWindowPoint words text_base a 2 in
    let P : ℕ → Type 0 = λ a. Stands words a (SD 2 1 (pos (8 * m))) × Unit {0} in
    let w2 : IsWindowPoint words text_base (q + 8) 2 =
    subst Q at (window_after words q (q + 8) 2 (BEQ 2 3 (pos 8)) [] (SD 2 1 (pos (8 * m))) 0 placed.stands.0 room (subst P over placed.stands.1.1) tt (lit≤ tt) (lit≤ tt) tt refl refl refl refl) in
    let right : c2.regs 2 ≡ Has Sure (slot_address g.base) = with_register-same c1.regs 2 (Has Sure (slot_address g.base)) in
    let end : q + 12 ≡ q + 8 + 4 = omega arith in
    joined (copy_repairs words c1 2 3 4 sp q (q + 8) two three four n2 refl refl (covered (Excepted WindowPoints words) c1 (1 ∷ []) s1 (w1, tt)))
    (carries_less (knows_same c2)
    (store_carries words (Excepted WindowPoints words) c2 2 1 (pos (8 * m)) (g.base + m) (slot_at g c2 m is within right refl) (covered (Excepted WindowPoints words) c2 (2 ∷ 1 ∷ []) s2 (w2, (w1', tt))))
    (store_less g m back (q + 8 + 4) (q + 12) free end))

pub entries_keep : (words : List ℕ) (g : Stage) (p m : ℕ) (offset : ℤ) → g.places 1 ≡ Free → IsInData (resting g One) m → IsPlaced words p (JAL 1 offset ∷ []) → IsPlaced words (target p offset) (entry_words m) →
    Goes words (resting g One) p 4 (resting (linked_back g m (p + 4)) One) (target p offset + 12)
entries_keep words g p m offset free within jump placed =
    record {
      moves = λ is.
          let c0 = at_address (resting g One) p in
          let c1 = after_write (at_address (resting g One) p) 1 (Has Sure (p + 4)) (target p offset) in
          moves_then words (Excepted WindowPoints words) c0 c1 (at_address (resting (linked_back g m (p + 4)) One) (target p offset + 12)) 1 3
          (link_moves words (Excepted WindowPoints words) c0 1 offset jump (lit< tt) (covered_view words (resting g One) p is))
          ((entry_carries words g p (target p offset) m offset is free within jump.stands.0 refl placed).moves placed);
      kept = λ is. record { tag = is.tag; places = is.places; size = is.size; base = is.base };
    }

-- the address comes into x1
abbrev loaded_link : Stage → ℕ → ℕ → Assertion
loaded_link g back p = after_write (at_address (resting g One) p) 1 (Has Sure back) p

link_loaded : (words : List ℕ) (g : Stage) (p m back : ℕ) → IsView (resting g One) → IsInData (resting g One) m → g.slots (g.base + m) ≡ Has Sure back → IsPlaced words p (return_words m) →
    Carries words (Excepted WindowPoints words) (near_load 1 m) (at_address (resting g One) p) (loaded_link g back (p + 12))
link_loaded words g p m back is within holds placed =
    let sp = slot_address g.base in
    let c0 = at_address (resting g One) p in
    let c1 = after_write (at_address (resting g One) p) 2 (Has Sure (slot_address g.base)) (p + 8) in
    let n1 : 0 < 1 = omega arith in
    let n2 : 0 < 2 = omega arith in
    let room : (p + 8) % 2 ^ 64 ≡ p + 8 = omega (arith, placed.room) in
    let over : p + 4 + 4 ≡ p + 8 = omega arith in
    let at : p + 8 + 4 * 0 ≡ p + 8 = omega arith in
    let Q : ℕ → Type 0 = λ a. IsWindowPoint words text_base a 2 in
    let P : ℕ → Type 0 = λ a. Stands words a (LD 1 2 (pos (8 * m))) × Unit {0} in
    let stands : StandsAll words (p + 8) (LD 1 2 (pos (8 * m)) ∷ []) = subst P over (placed.stands.1.1.0, tt) in
    let w2 : IsWindowPoint words text_base (p + 8) 2 =
    subst Q at (window_after words p (p + 8) 2 (BEQ 2 3 (pos 8)) [] (LD 1 2 (pos (8 * m))) 0 placed.stands.0 room stands tt (lit≤ tt) (lit≤ tt) tt refl refl refl refl) in
    let s1 = sures_sure (resting_regs g) 2 sp [] (sures_view (resting g One) is) in
    let right : c1.regs 2 ≡ Has Sure (slot_address g.base) = with_register-same (resting_regs g) 2 (Has Sure (slot_address g.base)) in
    let end : p + 12 ≡ p + 8 + 4 = omega arith in
    joined (copy_repairs words c0 2 3 4 sp p (p + 8) (view_cell-two g One no_values) (view_cell-three g One no_values) (view_cell-four g One no_values) n2 refl refl (covered_view words (resting g One) p is))
    (carries_less (knows_same c1)
    (load_carries words (Excepted WindowPoints words) c1 1 2 (pos (8 * m)) (g.base + m) (slot_at g c1 m is within right refl) n1 (covered (Excepted WindowPoints words) c1 (2 ∷ []) s1 (w2, tt)))
    (knows_regs c0 (p + 8 + 4) (p + 12) (with_register c1.regs 1 (g.slots (g.base + m))) (with_register (resting_regs g) 1 (Has Sure back)) end
    (written_says c1.regs (resting_regs g) 1 (g.slots (g.base + m)) (Has Sure back) (says_same (g.slots (g.base + m)) (Has Sure back) holds) (λ r ne. voted_forgotten g (resting_regs g) (λ q. says_again (resting_regs g q)) r))))

pub returns_go : (words : List ℕ) (g : Stage) (p m back : ℕ) → IsPlaced words p (return_words m) → IsInData (resting g One) m → g.slots (g.base + m) ≡ Has Sure back → back % 2 ≡ 0 → g.places 1 ≡ Free → Goes words (resting g One) p 4 (resting g One) back
returns_go words g p m back placed within holds even free =
    record { moves = λ is. moves is; kept = λ is. is }
  where
    moves : IsView (resting g One) → Moves words (Excepted WindowPoints words) (at_address (resting g One) p) 4 (at_address (resting g One) back)
    moves is =
        let c0 = at_address (resting g One) p in
        let c1 = loaded_link g back (p + 12) in
        let front : IsPlaced words p (near_load 1 m) = placed_front words p (near_load 1 m) (JALR 0 1 (pos 0) ∷ []) placed in
        let last : IsPlaced words (p + 12) (JALR 0 1 (pos 0) ∷ []) = placed_back words p (near_load 1 m) (JALR 0 1 (pos 0) ∷ []) placed in
        let from : p + 4 + 4 ≡ p + 8 = omega arith in
        let at : p + 12 + 4 * 0 ≡ p + 12 = omega arith in
        let to : p + 8 + 4 ≡ p + 12 = omega arith in
        let Q : ℕ → Type 0 = λ a. IsWindowPoint words text_base a 1 in
        let R : ℕ → Type 0 = λ a. Stands words a (LD 1 2 (pos (8 * m))) in
        let window : IsWindowPoint words text_base (p + 12) 1 =
        subst Q at (window_after words (p + 8) (p + 12) 1 (LD 1 2 (pos (8 * m))) [] (JALR 0 1 (pos 0)) 0 (subst R from placed.stands.1.1.0) to last.stands tt (lit≤ tt) (lit≤ tt) tt refl refl refl refl) in
        let s1 = sures_sure (resting_regs g) 1 back [] (sures_view (resting g One) is) in
        let right : c1.regs 1 ≡ Has Sure back = with_register-same (resting_regs g) 1 (Has Sure back) in
        let less = knows_regs c0 back back (with_register (resting_regs g) 1 (Has Sure back)) (resting_regs g) refl (link_forgotten g back free) in
        let jump = register_jump_moves words (Excepted WindowPoints words) c1 1 back last right even (covered (Excepted WindowPoints words) c1 (1 ∷ []) s1 (window, tt)) in
        moves_then words (Excepted WindowPoints words) c0 c1 (at_address (resting g One) back) 3 1 ((link_loaded words g p m back is within holds placed).moves front)
        (moves_weaker words (Excepted WindowPoints words) c1 (record c1 { pc = back }) (at_address (resting g One) back) 1 (λ damage s. meets_less words (record c1 { pc = back }) (at_address (resting g One) back) damage s less) jump)

-- the address of a call's return is even, and lies in the slot
pub links_are_kept : (words : List ℕ) (g : Stage) (p m : ℕ) (offset : ℤ) → IsPlaced words p (JAL 1 offset ∷ []) → ((linked_back g m (p + 4)).slots (g.base + m) ≡ Has Sure (p + 4)) × ((p + 4) % 2 ≡ 0)
links_are_kept words g p m offset placed =
    let at = placed.stands.0.place in
    (with_register-same g.slots (g.base + m) (Has Sure (p + 4)), omega arith)

-- slot m is beside what spares it
spared_beside : (base m : ℕ) (cs : List Copy) → SparesSlot m cs → IsBesideAll base cs (base + m)
spared_beside base m [] h = tt
spared_beside base m (c ∷ cs) h =
    let one = h.0.one in
    let two = h.0.two in
    let three = h.0.three in
    (record { one = λ e. one (omega arith); two = λ e. two (omega arith); three = λ e. three (omega arith) }, spared_beside base m cs h.1)

-- values stay where the return address is kept elsewhere
set_beside : (g : Stage) (m back : ℕ) (cs : List Copy) (values : ℕ → Option ℕ) → SparesSlot m cs → AreSet g cs values → AreSet (linked_back g m back) cs values
set_beside g m back [] values spares set = tt
set_beside g m back (c ∷ cs) values spares set =
    (record { one = other c.goal.one spares.0.one ∙ set.0.one; two = other c.goal.two spares.0.two ∙ set.0.two; three = other c.goal.three spares.0.three ∙ set.0.three }, set_beside g m back cs values spares.1 set.1)
  where
    other : (n : ℕ) → m ≢ n → (linked_back g m back).slots (g.base + n) ≡ g.slots (g.base + n)
    other n ne = let apart : g.base + n ≢ g.base + m = omega arith in with_register-other g.slots (g.base + m) (g.base + n) (Has Sure back) apart

pub arguments_are_set : (g : Stage) (base m back : ℕ) (args : List Copy) (values : ℕ → Option ℕ) → Compatible args → SparesSlot m args → AreSet (called g base args values m back) args values
arguments_are_set g base m back args values fits spares = set_beside (copied (based_at g base) args values) m back args values spares (goals_are_set (based_at g base) args values fits)

-- words above a frame are beside copies inside of it
inside_beside : (base n k : ℕ) (cs : List Copy) → base + n ≤ k → AreInside n cs → IsBesideAll base cs k
inside_beside base n k [] above inside = tt
inside_beside base n k (c ∷ cs) above inside =
    let one = inside.0 in
    let two = inside.1 in
    let three = inside.2 in
    (record { one = omega arith; two = omega arith; three = omega arith }, inside_beside base n k cs above inside.3)

pub callers_stay : (g : Stage) (n base m back : ℕ) (args : List Copy) (values : ℕ → Option ℕ) → base + n ≡ g.base → AreInside n args → m < n → SameWhere (λ k. g.base ≤ k) (based_at g base) (called g base args values m back)
callers_stay g n base m back args values below inside small =
    let h = copied (based_at g base) args values in
    let same = rest_stays (based_at g base) args values in
    record {
      base = same.base;
      places = same.places;
      slots = λ k above.
          let there : base + n ≤ k = omega arith in
          let at = same.base in
          let apart : k ≢ h.base + m = omega arith in
          with_register-other h.slots (h.base + m) k (Has Sure back) apart ∙ same.slots k (inside_beside base n k args there inside);
      bytes = λ o above.
          let there : base + n ≤ o / 8 = omega arith in
          let at = same.base in
          let apart : o / 8 ≢ h.base + m = omega arith in
          bytes_other h.bytes (h.base + m) o apart ∙ same.bytes o (inside_beside base n (o / 8) args there inside);
      size = same.size;
      input = same.input;
      out = same.out;
    }

-- a slot that is in the data at one stage is so at another
in_data_at : (g h : Stage) (m : ℕ) → h.base ≡ g.base → h.size ≡ g.size → IsInData (resting g One) m → IsInData (resting h One) m
in_data_at g h m base size within = rw (base, size) within

pub calls_enter : (words : List ℕ) (g : Stage) (p n base m : ℕ) (args : List Copy) (values : ℕ → Option ℕ) (offset : ℤ) → IsCall g n base m args values → IsPlaced words p (call_words n args offset) →
    IsPlaced words (target (jump_of p n args) offset) (entry_words m) → Goes words (resting g One) p (length (call_words n args offset) + 3) (resting (called g base args values m (back_of p n args)) One) (target (jump_of p n args) offset + 12)
calls_enter words g p n base m args values offset is placed entry =
    let front = frame_down n ++ copies_words args in
    let h = copied (based_at g base) args values in
    let same = rest_stays (based_at g base) args values in
    let runs : Runs words (frame_down n ++ copies_words args) (resting g One) (resting (copied (based_at g base) args values) One) =
    runs_then (frames_go_down words g n base is.size is.below) (copy_lists_run words (based_at g base) args values is.arguments is.compatible) in
    let free : h.places 1 ≡ Free = ap (λ f. f 1) same.places ∙ is.unused in
    let total : length front + 4 ≡ length (call_words n args offset) + 3 = omega (arith, length-append front (JAL 1 offset ∷ [])) in
    let P : ℕ → Type 0 = λ k. Goes words (resting g One) p k (resting (called g base args values m (back_of p n args)) One) (target (jump_of p n args) offset + 12) in
    subst P total
    (goes_then (runs_go p (placed_front words p front (JAL 1 offset ∷ []) placed) runs)
    (entries_keep words h (jump_of p n args) m offset free (in_data_at (based_at g base) h m same.base same.size is.link) (placed_back words p front (JAL 1 offset ∷ []) placed) entry))

pub results_return : (words : List ℕ) (g : Stage) (p m back : ℕ) (cs : List Copy) (values : ℕ → Option ℕ) → IsPlaced words p (copies_words cs ++ return_words m) → CanCopy g cs values → Compatible cs → SparesSlot m cs → IsInData (resting g One) m →
    g.slots (g.base + m) ≡ Has Sure back → back % 2 ≡ 0 → g.places 1 ≡ Free → Goes words (resting g One) p (length (copies_words cs ++ return_words m)) (resting (copied g cs values) One) back
results_return words g p m back cs values placed can fits spares within holds even free =
    let h = copied g cs values in
    let same = rest_stays g cs values in
    let kept : h.slots (h.base + m) ≡ Has Sure back = ap (λ b. h.slots (b + m)) same.base ∙ same.slots (g.base + m) (spared_beside g.base m cs spares) ∙ holds in
    let unused : h.places 1 ≡ Free = ap (λ f. f 1) same.places ∙ free in
    let total : length (copies_words cs) + 4 ≡ length (copies_words cs ++ return_words m) = sym (length-append (copies_words cs) (return_words m)) in
    let P : ℕ → Type 0 = λ k. Goes words (resting g One) p k (resting (copied g cs values) One) back in
    subst P total
    (goes_then (runs_go p (placed_front words p (copies_words cs) (return_words m) placed) (copy_lists_run words g cs values can fits))
    (returns_go words h (p + 4 * length (copies_words cs)) m back (placed_back words p (copies_words cs) (return_words m) placed) (in_data_at g h m same.base same.size within) kept even unused))

pub results_are_taken : (words : List ℕ) (g : Stage) (n base : ℕ) (cs : List Copy) (values : ℕ → Option ℕ) → CanCopy g cs values → Compatible cs → n < 0x800_0000 → g.base + n ≡ base → 8 * base ≤ 0x4000_0000 →
    Runs words (after_words cs n) (resting g One) (resting (based_at (copied g cs values) base) One)
results_are_taken words g n base cs values can fits small sum room =
    let h = copied g cs values in
    let same = rest_stays g cs values in
    let at = same.base in
    let above : h.base + n ≡ base = omega arith in
    runs_then (copy_lists_run words g cs values can fits) (frames_go_up words h n base small above room)
