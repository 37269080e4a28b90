-- The three copies of the stack pointer are moved, one after another.
use Rattle.std.proofs.Common.{◌≡◌, ◌≢◌, ℕ, ◌+◌, ◌*◌, ◌<◌, ◌≤◌, ◌^◌, ◌==◌, inl, Bool, true, false, cond, List, [], ◌∷◌, ◌++◌, length, Some, refl, sym, ◌∙◌, ap, subst, arith, length-append}
use Rattle.std.specs.Prelude.{ℤ, pos, negsuc, ◌-ℤ◌}
use Rattle.std.proofs.lemmas.Bool.Decides.{nat_tests}
use Rattle.std.proofs.lemmas.Int.{ints}
use Rattle.rv_inst.specs.declared.instruction.Form.{Form}
use Rattle.rv_inst.specs.declared.instruction.Form.TheVariants.{ADDI, ADD, SUB}
use Rattle.rv_model.specs.State.{plus64}
use Rattle.rv_model.specs.Operations.{bits64, upper_value, minus64}
use Rattle.rv_flips.specs.Cells.{Tag, Sure, One, Two, Three, Cell, Free, Has, SaysLess}
use Rattle.rv_flips.specs.Assertion.{Assertion, with_register, after_write}
use Rattle.rv_flips.specs.Known.{Sures}
use Rattle.rv_flips.proofs.CellLemmas.{with_register-same, with_register-other, says_same, says_free}
use Rattle.rv_flips.proofs.KnownRegisters.{covered, sures_other}
use Rattle.flip_words.specs.Placed.{WindowPoints, Excepted, Carries}
use Rattle.flip_words.specs.Words.{slot_address}
use Rattle.flip_words.proofs.CarryLemmas.{joined, carries_less}
use Rattle.flip_words.proofs.LessLemmas.{says_again, knows_same, knows_regs, written_says, written_less}
use Rattle.flip_words.proofs.ComputeLaws.{compute_carries, upper_carries}
use Rattle.flip_frames.specs.Views.{Stage, IsView, IsVersion, Runs, view_cell, at_address, no_values}
use Rattle.flip_frames.specs.Slots.{far_high, far_low, is_near}
use Rattle.flip_frames.proofs.RunLaws.{version_uncoded}
use Rattle.flip_frames.proofs.ViewLemmas.{view_cell-two, view_cell-three, view_cell-four, sures_view, not_sure_version}
use Rattle.flip_frames.proofs.AnySlots.{far_offset}
use Rattle.flip_versions.specs.Operations.{resting}
use Rattle.flip_calls.specs.Frames.{size_words, copy_down, copy_up, frame_down, frame_up, based_at}

free_unsure : (w : ℕ) → Free ≡ Has Sure w → ⊥
free_unsure w e = cc

-- what is known after the copy in d was moved, and x5 used
abbrev moved : Assertion → ℕ → Tag → ℕ → ℕ → Assertion
moved c d t a p = record c { pc = p; regs = with_register (with_register c.regs 5 Free) d (Has t a) }

-- of x5 nothing is known from here
without_five : (regs : ℕ → Cell) (r : ℕ) → SaysLess (regs r) (with_register regs 5 Free r)
without_five regs r = by_place (r == 5) refl
  where
    by_place : (b : Bool) → (r == 5) ≡ b → SaysLess (regs r) (with_register regs 5 Free r)
    by_place true e =
        let same : 5 ≡ r = grind (arith, nat_tests) in
        let P : ℕ → Type 0 = λ q. SaysLess (regs q) (with_register regs 5 Free q) in
        subst P same (rw (with_register-same regs 5 Free) (says_free (regs 5)))
    by_place false e =
        let other : r ≢ 5 = grind (arith, nat_tests) in
        rw (with_register-other regs 5 r Free other) (says_again (regs r))

-- a small constant, added or taken away by the word itself
near_carries : (words : List ℕ) (c : Assertion) (t : Tag) (d a b : ℕ) (imm : ℤ) → IsVersion t → c.regs d ≡ Has t a → plus64 a (bits64 imm) ≡ b → 0 < d → Sures c.regs [] →
    Carries words (Excepted WindowPoints words) (ADDI d d imm ∷ []) c (moved c d t b (c.pc + 4))
near_carries words c t d a b imm tag holds value nonzero sures =
    let P : ℕ → Type 0 = λ x. Carries words (Excepted WindowPoints words) (ADDI d d imm ∷ []) c (after_write c d (Has t x) (c.pc + 4)) in
    let word = subst P value (compute_carries words (Excepted WindowPoints words) c (ADDI d d imm) t a (bits64 imm) (inl holds, refl) (version_uncoded t tag) nonzero (covered (Excepted WindowPoints words) c [] sures tt)) in
    carries_less (knows_same c) word
    (knows_regs c (c.pc + 4) (c.pc + 4) (with_register c.regs d (Has t b)) (with_register (with_register c.regs 5 Free) d (Has t b)) refl
    (written_says c.regs (with_register c.regs 5 Free) d (Has t b) (Has t b) (says_again (Has t b)) (λ r ne. without_five c.regs r)))

-- a constant in x5
abbrev sized : Assertion → Tag → ℕ → Assertion
sized c t n =
    after_write (after_write c 5 (Has t (upper_value (far_high n))) (c.pc + 4)) 5 (Has t (8 * n)) (c.pc + 4 + 4)

size_carries : (words : List ℕ) (c : Assertion) (t : Tag) (n : ℕ) → IsVersion t → n < 0x800_0000 → Sures c.regs [] → Carries words (Excepted WindowPoints words) (size_words n) c (sized c t n)
size_carries words c t n tag small sures =
    let u = upper_value (far_high n) in
    let c1 = after_write c 5 (Has t (upper_value (far_high n))) (c.pc + 4) in
    let nonzero : 0 < 5 = omega arith in
    let s1 = sures_other c.regs 5 (Has t u) [] (not_sure_version t (Some u) tag) sures in
    let own : c1.regs 5 ≡ Has t (upper_value (far_high n)) = with_register-same c.regs 5 (Has t (upper_value (far_high n))) in
    let P : ℕ → Type 0 = λ x. Carries words (Excepted WindowPoints words) (ADDI 5 5 (far_low n) ∷ []) c1 (after_write c1 5 (Has t x) (c.pc + 4 + 4)) in
    joined (upper_carries words (Excepted WindowPoints words) c 5 (far_high n) t nonzero (covered (Excepted WindowPoints words) c [] sures tt))
    (subst P (far_offset n small) (compute_carries words (Excepted WindowPoints words) c1 (ADDI 5 5 (far_low n)) t u (bits64 (far_low n)) (inl own, refl) (version_uncoded t tag) nonzero (covered (Excepted WindowPoints words) c1 [] s1 tt)))

sures_sized : (c : Assertion) (t : Tag) (n : ℕ) → IsVersion t → Sures c.regs [] → Sures (sized c t n).regs []
sures_sized c t n tag sures =
    let u = upper_value (far_high n) in
    sures_other (with_register c.regs 5 (Has t u)) 5 (Has t (8 * n)) [] (not_sure_version t (Some (8 * n)) tag) (sures_other c.regs 5 (Has t u) [] (not_sure_version t (Some u) tag) sures)

-- x5 is used up
sized_less : (c : Assertion) (t : Tag) (n d b : ℕ) → d ≢ 5 → (q : ℕ) → SaysLess (with_register (sized c t n).regs d (Has t b) q) (with_register (with_register c.regs 5 Free) d (Has t b) q)
sized_less c t n d b ne =
    let u = upper_value (far_high n) in
    let r1 = with_register c.regs 5 (Has t u) in
    let s1 = written_says c.regs c.regs 5 (Has t u) Free (says_free (Has t u)) (λ r ne. says_again (c.regs r)) in
    let s2 = written_less r1 (with_register c.regs 5 Free) 5 (Has t (8 * n)) (rw (with_register-same c.regs 5 Free) (says_free (Has t (8 * n)))) (λ r ne. s1 r) in
    written_says (sized c t n).regs (with_register c.regs 5 Free) d (Has t b) (Has t b) (says_again (Has t b)) (λ r ne. s2 r)

-- the copy in d, after x5 has the constant
last_carries : (words : List ℕ) (c : Assertion) (t : Tag) (n d b : ℕ) (last : Form) → n < 0x800_0000 → IsVersion t → d ≢ 5 → Sures c.regs [] →
    (Carries words (Excepted WindowPoints words) (last ∷ []) (sized c t n) (after_write (sized c t n) d (Has t b) (c.pc + 4 + 4 + 4))) →
    Carries words (Excepted WindowPoints words) (size_words n ++ last ∷ []) c (moved c d t b (c.pc + 12))
last_carries words c t n d b last small tag ne sures word =
    let there : c.pc + 12 ≡ c.pc + 4 + 4 + 4 = omega arith in
    joined (size_carries words c t n tag small sures)
    (carries_less (knows_same (sized c t n)) word
    (knows_regs c (c.pc + 4 + 4 + 4) (c.pc + 12) (with_register (sized c t n).regs d (Has t b)) (with_register (with_register c.regs 5 Free) d (Has t b)) there (sized_less c t n d b ne)))

-- the operands of the last word
copy_held : (c : Assertion) (t : Tag) (n d a : ℕ) → d ≢ 5 → c.regs d ≡ Has t a → (sized c t n).regs d ≡ Has t a
copy_held c t n d a ne holds =
    let u = upper_value (far_high n) in
    with_register-other (with_register c.regs 5 (Has t u)) 5 d (Has t (8 * n)) ne ∙ with_register-other c.regs 5 d (Has t u) ne ∙ holds

size_held : (c : Assertion) (t : Tag) (n : ℕ) → (sized c t n).regs 5 ≡ Has t (8 * n)
size_held c t n = with_register-same (with_register c.regs 5 (Has t (upper_value (far_high n)))) 5 (Has t (8 * n))

far_down_carries : (words : List ℕ) (c : Assertion) (t : Tag) (n d a b : ℕ) → n < 0x800_0000 → IsVersion t → d ≢ 5 → 0 < d → Sures c.regs [] → c.regs d ≡ Has t a → minus64 a (8 * n) ≡ b →
    Carries words (Excepted WindowPoints words) (size_words n ++ SUB d d 5 ∷ []) c (moved c d t b (c.pc + 12))
far_down_carries words c t n d a b small tag ne nonzero sures holds value =
    let P : ℕ → Type 0 = λ x. Carries words (Excepted WindowPoints words) (SUB d d 5 ∷ []) (sized c t n) (after_write (sized c t n) d (Has t x) (c.pc + 4 + 4 + 4)) in
    last_carries words c t n d b (SUB d d 5) small tag ne sures
    (subst P value (compute_carries words (Excepted WindowPoints words) (sized c t n) (SUB d d 5) t a (8 * n) (inl (copy_held c t n d a ne holds), inl (size_held c t n)) (version_uncoded t tag) nonzero (covered (Excepted WindowPoints words) (sized c t n) [] (sures_sized c t n tag sures) tt)))

far_up_carries : (words : List ℕ) (c : Assertion) (t : Tag) (n d a b : ℕ) → n < 0x800_0000 → IsVersion t → d ≢ 5 → 0 < d → Sures c.regs [] → c.regs d ≡ Has t a → plus64 a (8 * n) ≡ b →
    Carries words (Excepted WindowPoints words) (size_words n ++ ADD d d 5 ∷ []) c (moved c d t b (c.pc + 12))
far_up_carries words c t n d a b small tag ne nonzero sures holds value =
    let P : ℕ → Type 0 = λ x. Carries words (Excepted WindowPoints words) (ADD d d 5 ∷ []) (sized c t n) (after_write (sized c t n) d (Has t x) (c.pc + 4 + 4 + 4)) in
    last_carries words c t n d b (ADD d d 5) small tag ne sures
    (subst P value (compute_carries words (Excepted WindowPoints words) (sized c t n) (ADD d d 5) t a (8 * n) (inl (copy_held c t n d a ne holds), inl (size_held c t n)) (version_uncoded t tag) nonzero (covered (Excepted WindowPoints words) (sized c t n) [] (sures_sized c t n tag sures) tt)))

-- a small number taken away
taken_away : (a b m : ℕ) → b + m ≡ a → a < 2 ^ 63 → (z : ℤ) → z ≡ pos 0 -ℤ pos m → plus64 a (bits64 z) ≡ b
taken_away a b m sum small (pos n) e = omega (arith, ints)
taken_away a b m sum small (negsuc n) e = omega (arith, ints)

-- what moves one copy of the stack pointer from one base to another
abbrev MovesCopy : List ℕ → (ℕ → List Form) → ℕ → ℕ → Type 0
MovesCopy words code base base' =
    (c : Assertion) (t : Tag) (d : ℕ) → IsVersion t → d ≢ 5 → 0 < d → Sures c.regs [] → c.regs d ≡ Has t (slot_address base) →
    Carries words (Excepted WindowPoints words) (code d) c (moved c d t (slot_address base') (c.pc + 4 * length (code d)))

down_moves : (words : List ℕ) (n base base' : ℕ) → n < 0x800_0000 → base' + n ≡ base → 8 * base ≤ 0x4000_0000 → MovesCopy words (λ d. copy_down d n) base base'
down_moves words n base base' small sum room c t d tag ne nonzero sures holds = by_size (is_near n)
  where
    by_size : (b : Bool) → Carries words (Excepted WindowPoints words) (cond b (ADDI d d (pos 0 -ℤ pos (8 * n)) ∷ []) (size_words n ++ SUB d d 5 ∷ [])) c
        (moved c d t (slot_address base') (c.pc + 4 * length (cond b (ADDI d d (pos 0 -ℤ pos (8 * n)) ∷ []) (size_words n ++ SUB d d 5 ∷ []))))
    by_size true =
        let total : slot_address base' + 8 * n ≡ slot_address base = omega arith in
        near_carries words c t d (slot_address base) (slot_address base') (pos 0 -ℤ pos (8 * n)) tag holds (taken_away (slot_address base) (slot_address base') (8 * n) total (omega arith) (pos 0 -ℤ pos (8 * n)) refl) nonzero sures
    by_size false =
        let value : minus64 (slot_address base) (8 * n) ≡ slot_address base' = omega arith in
        far_down_carries words c t n d (slot_address base) (slot_address base') small tag ne nonzero sures holds value

up_moves : (words : List ℕ) (n base base' : ℕ) → n < 0x800_0000 → base + n ≡ base' → 8 * base' ≤ 0x4000_0000 → MovesCopy words (λ d. copy_up d n) base base'
up_moves words n base base' small sum room c t d tag ne nonzero sures holds = by_size (is_near n)
  where
    value : plus64 (slot_address base) (8 * n) ≡ slot_address base'
    value = omega arith

    by_size : (b : Bool) → Carries words (Excepted WindowPoints words) (cond b (ADDI d d (pos (8 * n)) ∷ []) (size_words n ++ ADD d d 5 ∷ [])) c
        (moved c d t (slot_address base') (c.pc + 4 * length (cond b (ADDI d d (pos (8 * n)) ∷ []) (size_words n ++ ADD d d 5 ∷ []))))
    by_size true = near_carries words c t d (slot_address base) (slot_address base') (pos (8 * n)) tag holds value nonzero sures
    by_size false = far_up_carries words c t n d (slot_address base) (slot_address base') small tag ne nonzero sures holds value

-- but for the copies of the stack pointer a view says the same of registers wherever the frame is
same_elsewhere : (g : Stage) (base q : ℕ) → q ≢ 2 → q ≢ 3 → q ≢ 4 → view_cell g One no_values q ≡ view_cell (based_at g base) One no_values q
unfolding view_cell
same_elsewhere g base q ne2 ne3 ne4 =
    let e2 : (q == 2) ≡ false = grind (arith, nat_tests) in
    let e3 : (q == 3) ≡ false = grind (arith, nat_tests) in
    let e4 : (q == 4) ≡ false = grind (arith, nat_tests) in
    rw (e2, e3, e4) refl

-- x5 holds nothing between sequences
five_free : (h : Stage) → SaysLess Free (view_cell h One no_values 5)
unfolding view_cell
five_free h = says_again Free

-- a place that is written, of another one known
written_but : (regs less : ℕ → Cell) (d : ℕ) (cell : Cell) → SaysLess cell (less d) → (r : ℕ) → (r ≢ d → SaysLess (regs r) (less r)) → SaysLess (with_register regs d cell r) (less r)
written_but regs less d cell own r other = by_place (r == d) refl
  where
    by_place : (b : Bool) → (r == d) ≡ b → SaysLess (with_register regs d cell r) (less r)
    by_place true e =
        let same : d ≡ r = grind (arith, nat_tests) in
        let P : ℕ → Type 0 = λ q. SaysLess (with_register regs d cell q) (less q) in
        subst P same (rw (with_register-same regs d cell) own)
    by_place false e =
        let ne : r ≢ d = grind (arith, nat_tests) in
        rw (with_register-other regs d r cell ne) (other ne)

-- the registers after a copy was moved
abbrev move_of : (ℕ → Cell) → ℕ → Cell → ℕ → Cell
move_of regs d cell = with_register (with_register regs 5 Free) d cell

moved_but : (regs less : ℕ → Cell) (d : ℕ) (cell : Cell) → cell ≡ less d → SaysLess Free (less 5) → (r : ℕ) → (r ≢ d → SaysLess (regs r) (less r)) → SaysLess (move_of regs d cell r) (less r)
moved_but regs less d cell own five r other =
    written_but (with_register regs 5 Free) less d cell (says_same cell (less d) own) r (λ ne. written_but regs less 5 Free five r (λ ne5. other ne))

-- the registers after all three were moved
all_moved : (g : Stage) (base : ℕ) (q : ℕ) →
    SaysLess (move_of (move_of (move_of (view_cell g One no_values) 2 (Has One (slot_address base))) 3 (Has Two (slot_address base))) 4 (Has Three (slot_address base)) q) (view_cell (based_at g base) One no_values q)
all_moved g base q =
    let h = based_at g base in
    let sp = slot_address base in
    let r0 = view_cell g One no_values in
    let less = view_cell (based_at g base) One no_values in
    let r2 = move_of r0 2 (Has One sp) in
    let r3 = move_of r2 3 (Has Two sp) in
    let five = five_free (based_at g base) in
    moved_but r3 less 4 (Has Three sp) (sym (view_cell-four h One no_values)) five q
    (λ ne4. moved_but r2 less 3 (Has Two sp) (sym (view_cell-three h One no_values)) five q
    (λ ne3. moved_but r0 less 2 (Has One sp) (sym (view_cell-two h One no_values)) five q
    (λ ne2. says_same (r0 q) (less q) (same_elsewhere g base q ne2 ne3 ne4))))

-- a copy that wasn't moved yet
not_moved : (regs : ℕ → Cell) (d q : ℕ) (cell : Cell) → q ≢ 5 → q ≢ d → move_of regs d cell q ≡ regs q
not_moved regs d q cell ne5 ne = with_register-other (with_register regs 5 Free) d q cell ne ∙ with_register-other regs 5 q Free ne5

sures_moved : (regs : ℕ → Cell) (d a : ℕ) (t : Tag) → IsVersion t → Sures regs [] → Sures (move_of regs d (Has t a)) []
sures_moved regs d a t tag sures = sures_other (with_register regs 5 Free) d (Has t a) [] (not_sure_version t (Some a) tag) (sures_other regs 5 Free [] free_unsure sures)

frame_carries : (words : List ℕ) (g : Stage) (base : ℕ) (code : ℕ → List Form) → MovesCopy words code g.base base → IsView (resting g One) → (p : ℕ) →
    Carries words (Excepted WindowPoints words) (code 2 ++ (code 3 ++ code 4)) (at_address (resting g One) p) (at_address (resting (based_at g base) One) (p + 4 * length (code 2 ++ (code 3 ++ code 4))))
frame_carries words g base code moves is p =
    let sp = slot_address base in
    let old = slot_address g.base in
    let c0 = at_address (resting g One) p in
    let q2 = p + 4 * length (code 2) in
    let q3 = p + 4 * length (code 2) + 4 * length (code 3) in
    let c2 = moved (at_address (resting g One) p) 2 One (slot_address base) (p + 4 * length (code 2)) in
    let c3 = moved c2 3 Two (slot_address base) (p + 4 * length (code 2) + 4 * length (code 3)) in
    let s0 = sures_view (resting g One) is in
    let s2 = sures_moved c0.regs 2 sp One tt s0 in
    let s3 = sures_moved c2.regs 3 sp Two tt s2 in
    let a25 : 2 ≢ 5 = omega arith in
    let a35 : 3 ≢ 5 = omega arith in
    let a45 : 4 ≢ 5 = omega arith in
    let a32 : 3 ≢ 2 = omega arith in
    let a42 : 4 ≢ 2 = omega arith in
    let a43 : 4 ≢ 3 = omega arith in
    let n2 : 0 < 2 = omega arith in
    let n3 : 0 < 3 = omega arith in
    let n4 : 0 < 4 = omega arith in
    let three : c2.regs 3 ≡ Has Two (slot_address g.base) = not_moved c0.regs 2 3 (Has One sp) a35 a32 ∙ view_cell-three g One no_values in
    let four : c3.regs 4 ≡ Has Three (slot_address g.base) = not_moved c2.regs 3 4 (Has Two sp) a45 a43 ∙ not_moved c0.regs 2 4 (Has One sp) a45 a42 ∙ view_cell-four g One no_values in
    let size : length (code 2 ++ (code 3 ++ code 4)) ≡ length (code 2) + (length (code 3) + length (code 4)) = length-append (code 2) (code 3 ++ code 4) ∙ ap (λ n. length (code 2) + n) (length-append (code 3) (code 4)) in
    let there : p + 4 * length (code 2 ++ (code 3 ++ code 4)) ≡ p + 4 * length (code 2) + 4 * length (code 3) + 4 * length (code 4) = omega arith in
    joined (moves c0 One 2 tt a25 n2 s0 (view_cell-two g One no_values))
    (joined (moves c2 Two 3 tt a35 n3 s2 three)
    (carries_less (knows_same c3) (moves c3 Three 4 tt a45 n4 s3 four)
    (knows_regs c0 (p + 4 * length (code 2) + 4 * length (code 3) + 4 * length (code 4)) (p + 4 * length (code 2 ++ (code 3 ++ code 4))) (move_of c3.regs 4 (Has Three sp)) (view_cell (based_at g base) One no_values) there (all_moved g base))))

pub frames_go_down : (words : List ℕ) (g : Stage) (n base : ℕ) → n < 0x800_0000 → base + n ≡ g.base → Runs words (frame_down n) (resting g One) (resting (based_at g base) One)
frames_go_down words g n base small sum =
    record {
      carries = λ is p. frame_carries words g base (λ d. copy_down d n) (down_moves words n g.base base small sum is.base) is p;
      kept = λ is. let room : 8 * base ≤ 0x4000_0000 = omega (arith, is.base) in record { tag = is.tag; places = is.places; size = is.size; base = room };
    }

pub frames_go_up : (words : List ℕ) (g : Stage) (n base : ℕ) → n < 0x800_0000 → g.base + n ≡ base → 8 * base ≤ 0x4000_0000 → Runs words (frame_up n) (resting g One) (resting (based_at g base) One)
frames_go_up words g n base small sum room =
    record {
      carries = λ is p. frame_carries words g base (λ d. copy_up d n) (up_moves words n g.base base small sum room) is p;
      kept = λ is. record { tag = is.tag; places = is.places; size = is.size; base = room };
    }
