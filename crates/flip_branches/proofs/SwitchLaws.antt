-- The cases of a switch: a number is taken away from each version, and the difference is tested.
use Rattle.std.proofs.Common.{◌≡◌, ◌≢◌, ℕ, ◌+◌, ◌*◌, ◌<◌, ◌≤◌, ◌^◌, ◌==◌, inl, Bool, true, false, cond, List, [], ◌∷◌, ◌++◌, length, Option, Some, None, refl, ◌∙◌, ap, subst, arith, length-append}
use Rattle.std.specs.Prelude.{ℤ, pos}
use Rattle.std.proofs.lemmas.Bool.Decides.{nat_tests}
use Rattle.rv_inst.specs.declared.instruction.Form.{Form}
use Rattle.rv_inst.specs.declared.instruction.Form.TheVariants.{ADDI, SUB, JAL}
use Rattle.rv_model.specs.State.{plus64}
use Rattle.rv_model.specs.Operations.{bits64, minus64}
use Rattle.rv_flips.specs.Cells.{Tag, Sure, One, Two, Three, Cell, Free, Has, SaysLess}
use Rattle.rv_flips.specs.Assertion.{Assertion, with_register, after_write}
use Rattle.rv_flips.specs.Known.{Sures}
use Rattle.rv_flips.proofs.CellLemmas.{with_register-same, with_register-other, says_same, says_free}
use Rattle.rv_flips.proofs.KnownRegisters.{covered, sures_other}
use Rattle.flip_words.specs.Placed.{WindowPoints, Excepted, IsPlaced, Carries}
use Rattle.flip_words.proofs.CarryLemmas.{placed_front, placed_back, joined, carries_less}
use Rattle.flip_words.proofs.LessLemmas.{says_again, knows_same, knows_regs, written_says, written_less}
use Rattle.flip_words.proofs.ComputeLaws.{compute_carries}
use Rattle.flip_frames.specs.Views.{Stage, View, IsView, IsVersion, version, view_cell, no_values, at_address}
use Rattle.flip_frames.proofs.RunLaws.{version_uncoded}
use Rattle.flip_frames.proofs.ViewLemmas.{view_cell-zero, sures_view, not_sure_version}
use Rattle.flip_versions.specs.Operations.{resting}
use Rattle.flip_guards.specs.Guards.{KeptRegister, Kept, over, guard_at, guarded}
use Rattle.flip_guards.specs.Sources.{part_words}
use Rattle.flip_guards.specs.Fetching.{Operand, IsGiven, bring_three}
use Rattle.flip_guards.proofs.Lines.{forgets, sures_over}
use Rattle.flip_guards.proofs.SourceLaws.{making, parts_carry}
use Rattle.flip_guards.proofs.FetchLaws.{free_scratch, three_kept, stage_brings, keeping_six, keeping_seven}
use Rattle.flip_jumps.specs.Jumps.{target}
use Rattle.flip_jumps.specs.Places.{Goes}
use Rattle.flip_jumps.proofs.PlaceLaws.{goes_then, jumps_go}
use Rattle.flip_branches.specs.Switches.{Taking, Adding, Made, taking_words, Takes, Case, case_test, case_words, switch_words, AreCases, switch_target}
use Rattle.flip_branches.proofs.TestLaws.{tested, turned, tests_go, goes_within}

-- what is left when the number is taken away
abbrev difference : ℕ → ℕ → Taking → ℕ
difference w n (Adding less) = plus64 w (bits64 less)
difference w n (Made parts) = minus64 w n

-- it is 0 of the number alone
same_tests : (d v n : ℕ) → (d ≡ 0 → v ≡ n) → (v ≡ n → d ≡ 0) → (d == 0) ≡ (v == n)
same_tests d v n h k = by_tests (d == 0) (v == n) refl refl
  where
    by_tests : (x y : Bool) → (d == 0) ≡ x → (v == n) ≡ y → x ≡ y
    by_tests true true e f = refl
    by_tests false false e f = refl
    by_tests true false e f = let same : v ≡ n = h (grind (arith, nat_tests)) in absurd (grind (arith, nat_tests))
    by_tests false true e f = let zero : d ≡ 0 = k (grind (arith, nat_tests)) in absurd (grind (arith, nat_tests))

difference_test : (v n : ℕ) (t : Taking) → v < 2 ^ 64 → n < 2 ^ 64 → Takes n t → (difference v n t == 0) ≡ (v == n)
difference_test v n (Adding less) small small' takes = same_tests (plus64 v (bits64 less)) v n (λ e. omega arith) (λ e. ap (λ x. plus64 x (bits64 less)) e ∙ takes)
difference_test v n (Made parts) small small' takes = same_tests (minus64 v n) v n (λ e. omega arith) (λ e. omega arith)

-- from one register, with x28 free
taking_carries : (words : List ℕ) (c : Assertion) (tag : Tag) (d w n : ℕ) (t : Taking) → IsVersion tag → c.regs 0 ≡ Has Sure 0 → Sures c.regs [] → c.regs 28 ≡ Free → c.regs d ≡ Has tag w → d ≢ 28 → 0 < d → Takes n t →
    Carries words (Excepted WindowPoints words) (taking_words d t) c (after_write c d (Has tag (difference w n t)) (c.pc + 4 * length (taking_words d t)))
taking_carries words c tag d w n (Adding less) is x0 sures free holds ne nonzero takes =
    compute_carries words (Excepted WindowPoints words) c (ADDI d d less) tag w (bits64 less) (inl holds, refl) (version_uncoded tag is) nonzero (covered (Excepted WindowPoints words) c [] sures tt)
taking_carries words c tag d w n (Made parts) is x0 sures free holds ne nonzero takes =
    let L = Excepted WindowPoints words in
    let p1 = c.pc + 4 * length (part_words 28 parts) in
    let c1 = after_write c 28 (Has tag n) (c.pc + 4 * length (part_words 28 parts)) in
    let n28 : 0 < 28 = omega arith in
    let P : Option ℕ → Type 0 = λ o. Carries words (Excepted WindowPoints words) (part_words 28 parts) (making c 28 tag None c.pc) (making c 28 tag o (c.pc + 4 * length (part_words 28 parts))) in
    let front = subst P takes
    (parts_carry words L c 28 c.pc tag parts None x0 n28 (version_uncoded tag is)
    (λ q x. covered (Excepted WindowPoints words) (making c 28 tag x q) [] (sures_other c.regs 28 (version tag x) [] (not_sure_version tag x is) sures) tt)) in
    let s1 = sures_other c.regs 28 (Has tag n) [] (not_sure_version tag (Some n) is) sures in
    let own : c1.regs d ≡ Has tag w = with_register-other c.regs 28 d (Has tag n) ne ∙ holds in
    let made_there : c1.regs 28 ≡ Has tag n = with_register-same c.regs 28 (Has tag n) in
    let last = compute_carries words L c1 (SUB d d 28) tag w n (inl own, inl made_there) (version_uncoded tag is) nonzero (covered L c1 [] s1 tt) in
    let there : c.pc + 4 * length (part_words 28 parts ++ SUB d d 28 ∷ []) ≡ c.pc + 4 * length (part_words 28 parts) + 4 = omega (arith, length-append (part_words 28 parts) (SUB d d 28 ∷ [])) in
    joined (carries_less (knows_regs c c.pc c.pc c.regs (with_register c.regs 28 Free) refl (λ q. forgets c.regs 28 q)) front (knows_same c1))
    (carries_less (knows_same c1) last
    (knows_regs c (c.pc + 4 * length (part_words 28 parts) + 4) (c.pc + 4 * length (part_words 28 parts ++ SUB d d 28 ∷ [])) (with_register c1.regs d (Has tag (minus64 w n))) (with_register c.regs d (Has tag (minus64 w n))) there
    (written_says c1.regs c.regs d (Has tag (minus64 w n)) (Has tag (minus64 w n)) (says_again (Has tag (minus64 w n)))
    (λ r ne. written_less c.regs c.regs 28 (Has tag n) (rw free (says_free (Has tag n))) (λ k other. says_again (c.regs k)) r))))

-- a write as a guard says it, at a register
kept_at : (ks : List KeptRegister) (regs f : ℕ → Cell) (d : ℕ) (tag : Tag) (o : Option ℕ) (q : ℕ) → (q ≢ d → SaysLess (f q) (over ks regs q)) → SaysLess (with_register f d (version tag o) q) (over (Kept d tag o ∷ ks) regs q)
kept_at ks regs f d tag o q says = by_place (q == d) refl
  where
    by_place : (b : Bool) → (q == d) ≡ b → SaysLess (with_register f d (version tag o) q) (cond b (version tag o) (over ks regs q))
    by_place true e =
        let same : d ≡ q = grind (arith, nat_tests) in
        let P : ℕ → Type 0 = λ k. SaysLess (with_register f d (version tag o) k) (version tag o) in
        subst P same (says_same (with_register f d (version tag o) d) (version tag o) (with_register-same f d (version tag o)))
    by_place false e =
        let other : q ≢ d = grind (arith, nat_tests) in
        rw (with_register-other f d q (version tag o) other) (says other)

-- three versions of a value in x5 to x7
abbrev three_regs : Stage → ℕ → ℕ → Cell
three_regs g v = over (three_kept 5 6 7 (Some v) []) (view_cell g One no_values)

-- after all three were written
all_written : (g : Stage) (v d q : ℕ) → SaysLess (with_register (with_register (with_register (three_regs g v) 7 (Has Three d)) 6 (Has Two d)) 5 (Has One d) q) (three_regs g d q)
all_written g v d q =
    let regs = view_cell g One no_values in
    let f7 = with_register (three_regs g v) 7 (Has Three d) in
    let f6 = with_register f7 6 (Has Two d) in
    kept_at (Kept 6 Two (Some d) ∷ Kept 7 Three (Some d) ∷ []) regs f6 5 One (Some d) q
    (λ ne5. kept_at (Kept 7 Three (Some d) ∷ []) regs f7 6 Two (Some d) q
    (λ ne6. kept_at [] regs (three_regs g v) 7 Three (Some d) q (λ ne7. others ne5 ne6 ne7)))
  where
    others : q ≢ 5 → q ≢ 6 → q ≢ 7 → SaysLess (three_regs g v q) (view_cell g One no_values q)
    others ne5 ne6 ne7 =
        let e5 : (q == 5) ≡ false = grind (arith, nat_tests) in
        let e6 : (q == 6) ≡ false = grind (arith, nat_tests) in
        let e7 : (q == 7) ≡ false = grind (arith, nat_tests) in
        rw (e5, e6, e7) (says_again (view_cell g One no_values q))

-- the words that take the number away, from all three versions
abbrev taking_three : Taking → List Form
taking_three t = taking_words 7 t ++ (taking_words 6 t ++ taking_words 5 t)

three_carries : (words : List ℕ) (g : Stage) (v n p : ℕ) (t : Taking) → IsView (resting g One) → Takes n t →
    Carries words (Excepted WindowPoints words) (taking_three t) (guard_at (guarded g (three_kept 5 6 7 (Some v) [])) p) (guard_at (guarded g (three_kept 5 6 7 (Some (difference v n t)) [])) (p + 4 * length (taking_three t)))
three_carries words g v n p t is takes =
    let regs = view_cell g One no_values in
    let d = difference v n t in
    let c0 = guard_at (guarded g (three_kept 5 6 7 (Some v) [])) p in
    let p1 = p + 4 * length (taking_words 7 t) in
    let p2 = p + 4 * length (taking_words 7 t) + 4 * length (taking_words 6 t) in
    let c1 = after_write c0 7 (Has Three d) (p + 4 * length (taking_words 7 t)) in
    let c2 = after_write c1 6 (Has Two d) (p + 4 * length (taking_words 7 t) + 4 * length (taking_words 6 t)) in
    let calm = sures_view (resting g One) is in
    let s0 : Sures c0.regs [] = sures_over (three_kept 5 6 7 (Some v) []) regs calm in
    let s1 : Sures c1.regs [] = sures_other c0.regs 7 (Has Three d) [] (not_sure_version Three (Some d) tt) s0 in
    let s2 : Sures c2.regs [] = sures_other c1.regs 6 (Has Two d) [] (not_sure_version Two (Some d) tt) s1 in
    let z0 : c0.regs 0 ≡ Has Sure 0 = view_cell-zero g One no_values in
    let z1 : c1.regs 0 ≡ Has Sure 0 = with_register-other c0.regs 7 0 (Has Three d) (omega arith) ∙ z0 in
    let z2 : c2.regs 0 ≡ Has Sure 0 = with_register-other c1.regs 6 0 (Has Two d) (omega arith) ∙ z1 in
    let f0 : c0.regs 28 ≡ Free = free_scratch g 28 refl in
    let f1 : c1.regs 28 ≡ Free = with_register-other c0.regs 7 28 (Has Three d) (omega arith) ∙ f0 in
    let f2 : c2.regs 28 ≡ Free = with_register-other c1.regs 6 28 (Has Two d) (omega arith) ∙ f1 in
    let six : c1.regs 6 ≡ Has Two v = with_register-other c0.regs 7 6 (Has Three d) (omega arith) in
    let five : c2.regs 5 ≡ Has One v = with_register-other c1.regs 6 5 (Has Two d) (omega arith) ∙ with_register-other c0.regs 7 5 (Has Three d) (omega arith) in
    let there : p + 4 * length (taking_three t) ≡ p + 4 * length (taking_words 7 t) + 4 * length (taking_words 6 t) + 4 * length (taking_words 5 t) =
    omega (arith, length-append (taking_words 7 t) (taking_words 6 t ++ taking_words 5 t), length-append (taking_words 6 t) (taking_words 5 t)) in
    joined (taking_carries words c0 Three 7 v n t tt z0 s0 f0 refl (omega arith) (omega arith) takes)
    (joined (taking_carries words c1 Two 6 v n t tt z1 s1 f1 six (omega arith) (omega arith) takes)
    (carries_less (knows_same c2) (taking_carries words c2 One 5 v n t tt z2 s2 f2 five (omega arith) (omega arith) takes)
    (knows_regs c0 (p + 4 * length (taking_words 7 t) + 4 * length (taking_words 6 t) + 4 * length (taking_words 5 t)) (p + 4 * length (taking_three t)) (with_register c2.regs 5 (Has One d)) (three_regs g d) there (all_written g v d))))

-- the test of a case
case_goes : (words : List ℕ) (g : Stage) (x : Operand) (t : Taking) (v n p : ℕ) → IsGiven g x (Some v) → v < 2 ^ 64 → n < 2 ^ 64 → Takes n t → IsPlaced words p (case_test x t) →
    Goes words (resting g One) p (length (case_test x t)) (resting g One) (cond (v == n) (p + 4 * length (case_test x t)) (p + 4 * length (case_test x t) + 4))
case_goes words g x t v n p gives small small' takes placed = subst at (ap (λ b. cond b q (q + 4)) test) (subst at to go)
  where
    front : List Form
    front = bring_three 5 6 7 x ++ (taking_words 7 t ++ (taking_words 6 t ++ taking_words 5 t))

    q : ℕ
    q = p + 4 * length (case_test x t)

    d : ℕ
    d = difference v n t

    at : ℕ → Type 0
    at r = Goes words (resting g One) p (length (case_test x t)) (resting g One) r

    size : length (case_test x t) ≡ length front + 3
    size = length-append front (tested (pos 8))

    brings : IsView (resting g One) → Carries words (Excepted WindowPoints words) front (at_address (resting g One) p) (guard_at (guarded g (three_kept 5 6 7 (Some d) [])) (p + 4 * length front))
    brings is =
        let there : p + 4 * length (bring_three 5 6 7 x) + 4 * length (taking_three t) ≡ p + 4 * length front = omega (arith, length-append (bring_three 5 6 7 x) (taking_three t)) in
        let P : ℕ → Type 0 = λ r. Carries words (Excepted WindowPoints words) front (at_address (resting g One) p) (guard_at (guarded g (three_kept 5 6 7 (Some d) [])) r) in
        subst P there
        (joined (stage_brings words g 5 6 7 x (Some v) p is (omega arith) keeping_six keeping_seven gives) (three_carries words g v n (p + 4 * length (bring_three 5 6 7 x)) t is takes))

    go : at (turned (p + 4 * length front + 8) (pos 8) d)
    go = tests_go words g front d p (pos 8) brings placed

    to : turned (p + 4 * length front + 8) (pos 8) d ≡ cond (d == 0) q (q + 4)
    to =
        let next : p + 4 * length front + 8 + 4 ≡ q = omega (arith, size) in
        let over : target (p + 4 * length front + 8) (pos 8) ≡ q + 4 = omega (arith, size, placed.room) in
        ap (λ r. cond (d == 0) r (target (p + 4 * length front + 8) (pos 8))) next ∙ ap (λ r. cond (d == 0) q r) over

    test : (d == 0) ≡ (v == n)
    test = difference_test v n t small small' takes

-- two ways from one place
either_way : {words : List ℕ} {v : View} (b : Bool) (p q r s t m n k : ℕ) → m + n ≡ k → Goes words v p m v (cond b q r) → Goes words v q n v s → Goes words v r n v t → Goes words v p k v (cond b s t)
either_way true p q r s t m n k sum first one two = goes_within k (omega arith) (goes_then first one)
either_way false p q r s t m n k sum first one two = goes_within k (omega arith) (goes_then first two)

pub switches_turn : (words : List ℕ) (g : Stage) (x : Operand) (ks : List Case) (last : ℤ) (v p : ℕ) → IsGiven g x (Some v) → v < 2 ^ 64 → AreCases ks → IsPlaced words p (switch_words x ks last) →
    Goes words (resting g One) p (length (switch_words x ks last)) (resting g One) (switch_target p x ks last v)
switches_turn words g x [] last v p gives small are placed = jumps_go words (resting g One) p last placed
switches_turn words g x (k ∷ ks) last v p gives small are placed =
    let test = case_test x k.taking in
    let rest = switch_words x ks last in
    let q = p + 4 * length (case_test x k.taking) in
    let first : IsPlaced words p (case_words x k) = placed_front words p (case_words x k) rest placed in
    let jump : IsPlaced words (p + 4 * length (case_test x k.taking)) (JAL 0 k.hit ∷ []) = placed_back words p test (JAL 0 k.hit ∷ []) first in
    let size = length-append (case_test x k.taking) (JAL 0 k.hit ∷ []) in
    let total : length (case_test x k.taking) + (1 + length (switch_words x ks last)) ≡ length (switch_words x (k ∷ ks) last) = omega (arith, length-append (case_words x k) (switch_words x ks last)) in
    let past : p + 4 * length (case_words x k) ≡ p + 4 * length (case_test x k.taking) + 4 = omega arith in
    let P : ℕ → Type 0 = λ r. Goes words (resting g One) r (length (switch_words x ks last)) (resting g One) (switch_target (p + 4 * length (case_words x k)) x ks last v) in
    let few : 1 ≤ 1 + length (switch_words x ks last) = omega arith in
    let fewer : length (switch_words x ks last) ≤ 1 + length (switch_words x ks last) = omega arith in
    either_way (v == k.number) p q (q + 4) (target q k.hit) (switch_target (p + 4 * length (case_words x k)) x ks last v) (length test) (1 + length rest) (length (switch_words x (k ∷ ks) last)) total
    (case_goes words g x k.taking v k.number p gives small are.1 are.0 (placed_front words p test (JAL 0 k.hit ∷ []) first))
    (goes_within (1 + length rest) few (jumps_go words (resting g One) q k.hit jump))
    (goes_within (1 + length rest) fewer (subst P past (switches_turn words g x ks last v (p + 4 * length (case_words x k)) gives small are.2 (placed_back words p (case_words x k) rest placed))))
