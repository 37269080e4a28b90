-- From the start of a program over a sequence to its end.
use Rattle.std.proofs.Common.{◌≡◌, ◌≢◌, ℕ, zero, suc, ◌+◌, ◌*◌, ◌%◌, ◌<◌, ◌≤◌, ◌^◌, ◌==◌, Bool, true, false, cond, List, [], ◌∷◌, ◌++◌, length, Option, Some, None, IfSome, refl, sym, ◌∙◌, ap, subst, arith, append-nil, length-append, lit≤, lit<}
use Rattle.std.specs.Prelude.{ℤ, pos}
use Rattle.std.proofs.lemmas.Bool.Decides.{nat_tests}
use Rattle.rv_inst.specs.declared.instruction.Form.{Form}
use Rattle.rv_inst.specs.declared.instruction.Form.TheVariants.{ADDI, ECALL}
use Rattle.rv_inst.specs.Window.{IsWindowPoint}
use Rattle.rv_model.specs.declared.Flip.{Flip}
use Rattle.rv_model.specs.State.{MachineState}
use Rattle.rv_model.specs.Operations.{bits64, upper_value}
use Rattle.rv_model.specs.Run.{pc_at}
use Rattle.rv_model.specs.Text.{text_base, data_base, StandsAll, WordsOf}
use Rattle.rv_model.specs.Start.{program_image}
use Rattle.rv_model.proofs.TextLemmas.{stands_from, stands_front}
use Rattle.rv_flips.specs.Cells.{Damage, Sure, One, Two, Three, Cell, Free, Has, SaysLess}
use Rattle.rv_flips.specs.Assertion.{Assertion, with_register, after_write}
use Rattle.rv_flips.specs.Ending.{ending_words}
use Rattle.rv_flips.specs.Moves.{Pending, Finishes}
use Rattle.rv_flips.specs.Survives.{IsListed, Survives}
use Rattle.rv_flips.proofs.CellLemmas.{with_register-same, with_register-other, says_same}
use Rattle.rv_flips.proofs.EndingLaws.{ending_finishes}
use Rattle.rv_flips.proofs.KnownRegisters.{covered, sures_other}
use Rattle.rv_flips.proofs.MoveLemmas.{moves_finish}
use Rattle.rv_flips.proofs.StartLaws.{start_cells, start_assertion, sures-start_cells, survives}
use Rattle.rv_flips.proofs.Windows.{window_straight}
use Rattle.flip_words.specs.Placed.{WindowPoints, Excepted, IsPlaced, Carries}
use Rattle.flip_words.specs.Words.{slot_address}
use Rattle.flip_words.proofs.CarryLemmas.{placed_back, joined, carries_less}
use Rattle.flip_words.proofs.LessLemmas.{knows_same, knows_regs}
use Rattle.flip_words.proofs.ComputeLaws.{upper_carries}
use Rattle.flip_frames.specs.Views.{Stage, View, IsView, Runs, is_scratch, view_cell, at_address, no_values}
use Rattle.flip_frames.proofs.ViewLemmas.{view_cell-zero, view_cell-two, view_cell-three, view_cell-four, sures_view}
use Rattle.flip_versions.specs.Operations.{resting}
use Rattle.flip_programs.specs.Programs.{start_words, start_stage, program_code, IsProgram}

-- of the other registers nothing is known at the start
both_free : (b : Bool) → cond b Free Free ≡ Free
both_free true = refl
both_free false = refl

free_cell : (g : Stage) (q : ℕ) → g.places q ≡ Free → 0 < q → q ≢ 2 → q ≢ 3 → q ≢ 4 → view_cell g One no_values q ≡ Free
unfolding view_cell
free_cell g q free nonzero ne2 ne3 ne4 =
    let e0 : (q == 0) ≡ false = grind (arith, nat_tests) in
    let e2 : (q == 2) ≡ false = grind (arith, nat_tests) in
    let e3 : (q == 3) ≡ false = grind (arith, nat_tests) in
    let e4 : (q == 4) ≡ false = grind (arith, nat_tests) in
    rw (e0, e2, e3, e4, free) (both_free (is_scratch q))

start_cell : (g : Stage) (q : ℕ) → g.places q ≡ Free → q ≢ 2 → q ≢ 3 → q ≢ 4 → SaysLess (start_cells q) (view_cell g One no_values q)
unfolding start_cells
start_cell g zero free ne2 ne3 ne4 = says_same (Has Sure 0) (view_cell g One no_values 0) (sym (view_cell-zero g One no_values))
start_cell g (suc q) free ne2 ne3 ne4 = says_same Free (view_cell g One no_values (suc q)) (sym (free_cell g (suc q) free (omega arith) ne2 ne3 ne4))

-- the registers with three copies of the stack pointer
abbrev pub with_copies : ℕ → ℕ → Cell
with_copies sp = with_register (with_register (with_register start_cells 2 (Has One sp)) 3 (Has Two sp)) 4 (Has Three sp)

pub copies_say : (g : Stage) (q : ℕ) → ((r : ℕ) → g.places r ≡ Free) → SaysLess (with_copies (slot_address g.base) q) (view_cell g One no_values q)
copies_say g q free = by_four (q == 4) refl
  where
    sp : ℕ
    sp = slot_address g.base

    at : ℕ → Type 0
    at k = SaysLess (with_copies (slot_address g.base) k) (view_cell g One no_values k)

    second : ℕ → Cell
    second = with_register (with_register start_cells 2 (Has One (slot_address g.base))) 3 (Has Two (slot_address g.base))

    first : ℕ → Cell
    first = with_register start_cells 2 (Has One (slot_address g.base))

    by_two : q ≢ 4 → q ≢ 3 → (b : Bool) → (q == 2) ≡ b → at q
    by_two ne4 ne3 true e =
        let same : 2 ≡ q = grind (arith, nat_tests) in
        let a4 : 2 ≢ 4 = omega arith in
        let a3 : 2 ≢ 3 = omega arith in
        subst at same
        (says_same (with_copies (slot_address g.base) 2) (view_cell g One no_values 2)
        (with_register-other second 4 2 (Has Three (slot_address g.base)) a4 ∙ with_register-other first 3 2 (Has Two (slot_address g.base)) a3 ∙ with_register-same start_cells 2 (Has One (slot_address g.base)) ∙ sym (view_cell-two g One no_values)))
    by_two ne4 ne3 false e =
        let ne2 : q ≢ 2 = grind (arith, nat_tests) in
        rw (with_register-other second 4 q (Has Three (slot_address g.base)) ne4, with_register-other first 3 q (Has Two (slot_address g.base)) ne3, with_register-other start_cells 2 q (Has One (slot_address g.base)) ne2)
        (start_cell g q (free q) ne2 ne3 ne4)

    by_three : q ≢ 4 → (b : Bool) → (q == 3) ≡ b → at q
    by_three ne4 true e =
        let same : 3 ≡ q = grind (arith, nat_tests) in
        let a4 : 3 ≢ 4 = omega arith in
        subst at same
        (says_same (with_copies (slot_address g.base) 3) (view_cell g One no_values 3)
        (with_register-other second 4 3 (Has Three (slot_address g.base)) a4 ∙ with_register-same first 3 (Has Two (slot_address g.base)) ∙ sym (view_cell-three g One no_values)))
    by_three ne4 false e = let ne3 : q ≢ 3 = grind (arith, nat_tests) in by_two ne4 ne3 (q == 2) refl

    by_four : (b : Bool) → (q == 4) ≡ b → at q
    by_four true e =
        let same : 4 ≡ q = grind (arith, nat_tests) in
        subst at same (says_same (with_copies (slot_address g.base) 4) (view_cell g One no_values 4) (with_register-same second 4 (Has Three (slot_address g.base)) ∙ sym (view_cell-four g One no_values)))
    by_four false e = let ne4 : q ≢ 4 = grind (arith, nat_tests) in by_three ne4 (q == 3) refl

one_unsure : (v w : ℕ) → Has One v ≡ Has Sure w → ⊥
one_unsure v w e = cc

two_unsure : (v w : ℕ) → Has Two v ≡ Has Sure w → ⊥
two_unsure v w e = cc

-- the three words of the start
start_carries : (words init input : List ℕ) (extra base : ℕ) (high : ℤ) → upper_value high ≡ slot_address base →
    Carries words (Excepted WindowPoints words) (start_words high) (start_assertion init input extra) (at_address (resting (start_stage base init input extra) One) (text_base + 12))
start_carries words init input extra base high is =
    let u = upper_value high in
    let g = start_stage base init input extra in
    let c0 = start_assertion init input extra in
    let c1 = after_write c0 2 (Has One u) (text_base + 4) in
    let c2 = after_write c1 3 (Has Two u) (text_base + 8) in
    let s0 = sures-start_cells in
    let s1 = sures_other start_cells 2 (Has One u) [] (one_unsure u) s0 in
    let s2 = sures_other c1.regs 3 (Has Two u) [] (two_unsure u) s1 in
    let says : (q : ℕ) → SaysLess (with_copies u q) (view_cell g One no_values q) =
    λ q. rw is (copies_say (start_stage base init input extra) q (λ r. refl)) in
    joined (upper_carries words (Excepted WindowPoints words) c0 2 high One (lit< tt) (covered (Excepted WindowPoints words) c0 [] s0 tt))
    (joined (upper_carries words (Excepted WindowPoints words) c1 3 high Two (lit< tt) (covered (Excepted WindowPoints words) c1 [] s1 tt))
    (carries_less (knows_same c2) (upper_carries words (Excepted WindowPoints words) c2 4 high Three (lit< tt) (covered (Excepted WindowPoints words) c2 [] s2 tt))
    (knows_regs c0 (text_base + 12) (text_base + 12) (with_copies u) (view_cell g One no_values) refl says)))

-- the words of the end, from any view
end_finishes : (words : List ℕ) (w : View) (p : ℕ) (status : ℤ) → IsView w → IsPlaced words p (ending_words status) → Finishes words (Excepted WindowPoints words) (at_address w p) 3 w.stage.out (bits64 status % 256)
end_finishes words w p status is placed =
    let room : p + 12 < 2 ^ 64 = omega (arith, placed.room) in
    let at1 : p + 4 + 4 * 0 ≡ p + 4 = omega arith in
    let at2 : p + 4 + 4 * 1 ≡ p + 4 + 4 = omega arith in
    let at3 : p + 4 + 4 + 4 * 0 ≡ p + 4 + 4 = omega arith in
    let P : ℕ → Type 0 = λ q. IsWindowPoint words text_base q 10 in
    let Q : ℕ → Type 0 = λ q. IsWindowPoint words text_base q 17 in
    let w1 : IsWindowPoint words text_base (p + 4) 10 =
    subst P at1 (window_straight words p 10 (ADDI 10 0 status) (ADDI 17 0 (pos 93) ∷ []) ECALL 0 placed.stands (refl, (refl, tt)) (lit≤ tt) (lit≤ tt) (refl, tt) refl refl refl refl) in
    let w2 : IsWindowPoint words text_base (p + 4 + 4) 10 =
    subst P at2 (window_straight words p 10 (ADDI 10 0 status) (ADDI 17 0 (pos 93) ∷ []) ECALL 1 placed.stands (refl, (refl, tt)) (lit≤ tt) (lit≤ tt) (refl, tt) refl refl refl refl) in
    let w3 : IsWindowPoint words text_base (p + 4 + 4) 17 =
    subst Q at3 (window_straight words (p + 4) 17 (ADDI 17 0 (pos 93)) [] ECALL 0 placed.stands.1 (refl, tt) (lit≤ tt) (lit≤ tt) tt refl refl refl refl) in
    ending_finishes words (Excepted WindowPoints words) (at_address w p) status (view_cell-zero w.stage w.tag w.file) (sures_view w is) room placed.stands w1 w2 w3

-- a list that has all window points has no less points than they are
outside_more : (words : List ℕ) (points : List (ℕ × ℕ)) (r : ℕ) (o : Option ℕ) → ((p : ℕ) → IsWindowPoint words text_base p r → IsListed points p r) → IfSome o (λ p. IsListed points p r → ⊥) → IfSome o (λ p. IsWindowPoint words text_base p r → ⊥)
outside_more words points r None all h = h
outside_more words points r (Some p) all h = λ window. h (all p window)

pending_more : (words : List ℕ) (points : List (ℕ × ℕ)) (damage : Damage) (s : MachineState) (f : Option Flip) → ((p r : ℕ) → IsWindowPoint words text_base p r → IsListed points p r) →
    Pending (IsListed points) damage s f → Pending (Excepted WindowPoints words) damage s f
pending_more words points damage s None all h = tt
pending_more words points damage s (Some f) all h =
    record { undamaged = h.undamaged; fits = h.fits; outside = outside_more words points f.reg (pc_at f.at s) (λ p. all p f.reg) h.outside }

pub finishes_more : (words : List ℕ) (points : List (ℕ × ℕ)) (c : Assertion) (n : ℕ) (out : List ℕ) (status : ℕ) → ((p r : ℕ) → IsWindowPoint words text_base p r → IsListed points p r) →
    Finishes words (Excepted WindowPoints words) c n out status → Finishes words (IsListed points) c n out status
finishes_more words points c n out status all one s f good = one s f (record { damage = good.damage; meets = good.meets; pending = pending_more words points good.damage s f all good.pending })

length_of : (ws : List ℕ) (is : List Form) → WordsOf ws is → length ws ≡ length is
length_of [] [] h = refl
length_of (w ∷ ws) (i ∷ is) h = ap suc (length_of ws is h.1)
length_of [] (i ∷ is) h = absurd h
length_of (w ∷ ws) [] h = absurd h

pub programs_survive : (words init input : List ℕ) (extra base : ℕ) (high : ℤ) (code : List Form) (status : ℤ) (w : View) (points : List (ℕ × ℕ)) → IsProgram words init extra base high code status →
    Runs words code (resting (start_stage base init input extra) One) w → ((p r : ℕ) → IsWindowPoint words text_base p r → IsListed points p r) →
    Survives (program_image words init extra) points input w.stage.out (bits64 status % 256) (2 * (length words + 1))
programs_survive words init input extra base high code status w points is runs all =
    let v = resting (start_stage base init input extra) One in
    let view : IsView (resting (start_stage base init input extra) One) = record { tag = tt; places = λ q w e. cc; size = is.size; base = is.frame } in
    let size : length words ≡ 3 + (length code + 3) = length_of words (program_code high code status) is.are_words ∙ ap (λ n. suc (suc (suc n))) (length-append code (ending_words status)) ∙ omega arith in
    let total : length (program_code high code status) ≡ 3 + (length code + 3) = ap (λ n. suc (suc (suc n))) (length-append code (ending_words status)) ∙ omega arith in
    let room : text_base + 4 * length (program_code high code status) ≤ data_base = omega (arith, is.short) in
    let placed : IsPlaced words text_base (program_code high code status) =
    record { stands = stands_from words 0 words [] (program_code high code status) (sym (append-nil words)) is.are_words; room = room; short = is.short } in
    let rest : IsPlaced words (text_base + 12) (code ++ ending_words status) = placed_back words text_base (start_words high) (code ++ ending_words status) placed in
    let last : IsPlaced words (text_base + 12 + 4 * length code) (ending_words status) = placed_back words (text_base + 12) code (ending_words status) rest in
    let first = start_carries words init input extra base high is.address in
    let middle = runs.carries view (text_base + 12) in
    let whole = joined first middle in
    let front : IsPlaced words text_base (start_words high ++ code) =
    record { stands = front_stands words high code (ending_words status) placed.stands; room = omega (arith, is.short); short = is.short } in
    let ends = end_finishes words w (text_base + 12 + 4 * length code) status (runs.kept view) last in
    let few : length (start_words high ++ code) + 3 ≤ 2 * (length words + 1) = omega arith in
    survives words init extra input points (length (start_words high ++ code) + 3) (2 * (length words + 1)) w.stage.out (bits64 status % 256) few is.bytes
    (finishes_more words points (start_assertion init input extra) (length (start_words high ++ code) + 3) w.stage.out (bits64 status % 256) all
    (moves_finish words (Excepted WindowPoints words) (start_assertion init input extra) (at_address w (text_base + 12 + 4 * length code)) (length (start_words high ++ code)) 3 w.stage.out (bits64 status % 256) (whole.moves front) ends))
  where
    front_stands : (words : List ℕ) (high : ℤ) (code back : List Form) → StandsAll words text_base (start_words high ++ (code ++ back)) → StandsAll words text_base (start_words high ++ code)
    front_stands words high code back h = (h.0, (h.1.0, (h.1.1.0, stands_front words (text_base + 4 + 4 + 4) code back h.1.1.1)))
