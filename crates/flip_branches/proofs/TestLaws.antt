-- A value of which three versions have come into registers is checked and compared with 0.
use Rattle.std.proofs.Common.{◌≡◌, ℕ, ◌+◌, ◌*◌, ◌≤◌, ◌==◌, Bool, true, false, cond, List, [], ◌∷◌, ◌++◌, length, Some, refl, sym, ◌∙◌, ap, subst, arith, append_assoc, length-append, lit<}
use Rattle.std.specs.Prelude.{ℤ, pos, not}
use Rattle.std.proofs.lemmas.Bool.Decides.{nat_tests}
use Rattle.rv_inst.specs.declared.instruction.Form.{Form}
use Rattle.rv_inst.specs.declared.instruction.Form.TheVariants.{BNE, JAL}
use Rattle.rv_flips.specs.Cells.{Sure, One, Has, SaysLess}
use Rattle.rv_flips.specs.Assertion.{KnowsLess}
use Rattle.rv_flips.specs.Moves.{Moves}
use Rattle.rv_flips.proofs.CellLemmas.{says_free}
use Rattle.rv_flips.proofs.MoveLemmas.{moves_then, moves_weaker, moves_within}
use Rattle.rv_flips.proofs.WordLaws.{meets_less}
use Rattle.flip_words.specs.Placed.{WindowPoints, Excepted, IsPlaced, Carries}
use Rattle.flip_words.proofs.CarryLemmas.{placed_front, placed_back}
use Rattle.flip_words.proofs.LessLemmas.{says_again}
use Rattle.flip_frames.specs.Views.{Stage, View, IsView, view_cell, no_values, at_address}
use Rattle.flip_frames.proofs.ViewLemmas.{view_cell-zero, sures_view}
use Rattle.flip_versions.specs.Operations.{resting}
use Rattle.flip_guards.specs.Guards.{Kept, guard_at, guarded}
use Rattle.flip_guards.specs.Fetching.{Operand, IsGiven, bring_three, check_words, fetch_operand}
use Rattle.flip_guards.proofs.Lines.{Line, line_start, line_forget, covered_at}
use Rattle.flip_guards.proofs.LineWords.{line_check}
use Rattle.flip_guards.proofs.FetchLaws.{free_scratch, three_kept, stage_brings, keeping_six, keeping_seven}
use Rattle.flip_jumps.specs.Jumps.{target}
use Rattle.flip_jumps.specs.Places.{Goes}
use Rattle.flip_jumps.proofs.JumpWords.{branch_moves}
use Rattle.flip_jumps.proofs.PlaceLaws.{goes_then, jumps_go}
use Rattle.flip_branches.specs.Branches.{test_words, test_target, branch_words, branch_target, unreachable_words}

-- the check and the comparison
abbrev pub tested : ℤ → List Form
tested offset = check_words 5 6 7 ++ BNE 5 0 offset ∷ []

tested_line : (words : List ℕ) (g : Stage) (v : ℕ) (offset : ℤ) → Line words (tested offset) (guarded g (three_kept 5 6 7 (Some v) [])) 2 (guarded g (Kept 5 Sure (Some v) ∷ []))
tested_line words g v offset =
    line_forget 7 (free_scratch g 7 refl)
    (line_forget 6 (free_scratch g 6 refl)
    (line_check 5 6 7 v refl refl refl refl (lit< tt) refl (line_start words (tested offset) (guarded g (three_kept 5 6 7 (Some v) [])))))

-- x5 is forgotten
five_forgotten : (g : Stage) (v p : ℕ) → KnowsLess (guard_at (guarded g (Kept 5 Sure (Some v) ∷ [])) p) (at_address (resting g One) p)
five_forgotten g v p =
    record { pc = refl; regs = λ q. each q (q == 5) refl; slots = λ k damage x h. h; bytes = λ o x h. h; size = refl; input = refl; out = refl }
  where
    each : (q : ℕ) (b : Bool) → (q == 5) ≡ b → SaysLess (cond b (Has Sure v) (view_cell g One no_values q)) (view_cell g One no_values q)
    each q true e =
        let same : 5 ≡ q = grind (arith, nat_tests) in
        let P : ℕ → Type 0 = λ k. SaysLess (Has Sure v) (view_cell g One no_values k) in
        subst P same (rw (free_scratch g 5 refl) (says_free (Has Sure v)))
    each q false e = says_again (view_cell g One no_values q)

-- where the branch goes, by the value
abbrev pub turned : ℕ → ℤ → ℕ → ℕ
turned q offset v = cond (v == 0) (q + 4) (target q offset)

turned_is : (b : Bool) (one two : ℕ) → cond (not b) two one ≡ cond b one two
turned_is true one two = refl
turned_is false one two = refl

-- after any words that bring three versions of a value into x5 to x7
pub tests_go : (words : List ℕ) (g : Stage) (front : List Form) (v p : ℕ) (offset : ℤ) →
    (IsView (resting g One) → Carries words (Excepted WindowPoints words) front (at_address (resting g One) p) (guard_at (guarded g (three_kept 5 6 7 (Some v) [])) (p + 4 * length front))) →
    IsPlaced words p (front ++ tested offset) → Goes words (resting g One) p (length (front ++ tested offset)) (resting g One) (turned (p + 4 * length front + 8) offset v)
tests_go words g front v p offset brings placed = record { moves = moves; kept = λ is. is }
  where
    moves : IsView (resting g One) → Moves words (Excepted WindowPoints words) (at_address (resting g One) p) (length (front ++ tested offset)) (at_address (resting g One) (turned (p + 4 * length front + 8) offset v))
    moves is =
        let L = Excepted WindowPoints words in
        let start = guarded g (three_kept 5 6 7 (Some v) []) in
        let right = guarded g (Kept 5 Sure (Some v) ∷ []) in
        let c0 = at_address (resting g One) p in
        let q = p + 4 * length front in
        let q2 = p + 4 * length front + 8 in
        let c1 = guard_at (guarded g (three_kept 5 6 7 (Some v) [])) (p + 4 * length front) in
        let c2 = guard_at (guarded g (Kept 5 Sure (Some v) ∷ [])) (p + 4 * length front + 8) in
        let back : IsPlaced words (p + 4 * length front) (tested offset) = placed_back words p front (tested offset) placed in
        let last : IsPlaced words (p + 4 * length front + 8) (BNE 5 0 offset ∷ []) = placed_back words (p + 4 * length front) (check_words 5 6 7) (BNE 5 0 offset ∷ []) back in
        let calm = sures_view (resting g One) is in
        let check = (tested_line words g v offset).moves calm (p + 4 * length front) back in
        let covered = covered_at words (p + 4 * length front) (tested offset) 2 right back calm refl in
        let branch = branch_moves words (Excepted WindowPoints words) c2 (BNE 5 0 offset) v 0 refl last refl (view_cell-zero g One no_values) covered in
        let P : ℕ → Type 0 = λ r. Moves words (Excepted WindowPoints words) c2 1 (record c2 { pc = r }) in
        let there = subst P (turned_is (v == 0) (p + 4 * length front + 8 + 4) (target (p + 4 * length front + 8) offset)) branch in
        let to = turned (p + 4 * length front + 8) offset v in
        let end = moves_weaker words (Excepted WindowPoints words) c2 (record c2 { pc = to }) (at_address (resting g One) to) 1 (λ damage s. meets_less words (record c2 { pc = to }) (at_address (resting g One) to) damage s (five_forgotten g v to)) there in
        let few : length front + (2 + 1) ≤ length (front ++ tested offset) = omega (arith, length-append front (tested offset)) in
        moves_within words (Excepted WindowPoints words) c0 (at_address (resting g One) to) (length front + (2 + 1)) (length (front ++ tested offset)) few
        (moves_then words (Excepted WindowPoints words) c0 c1 (at_address (resting g One) to) (length front) (2 + 1) ((brings is).moves (placed_front words p front (tested offset) placed))
        (moves_then words (Excepted WindowPoints words) c1 c2 (at_address (resting g One) to) 2 1 check end))

-- the test of a value
pub tests_turn : (words : List ℕ) (g : Stage) (x : Operand) (v p : ℕ) (offset : ℤ) → IsGiven g x (Some v) → IsPlaced words p (test_words x offset) → Goes words (resting g One) p (length (test_words x offset)) (resting g One) (test_target p x offset v)
tests_turn words g x v p offset gives placed =
    let front = bring_three 5 6 7 x in
    let whole : test_words x offset ≡ bring_three 5 6 7 x ++ tested offset = append_assoc (bring_three 5 6 7 x) (check_words 5 6 7) (BNE 5 0 offset ∷ []) in
    let size = length-append (bring_three 5 6 7 x) (tested offset) in
    let size' = length-append (bring_three 5 6 7 x) (check_words 5 6 7) in
    let size2 : length (test_words x offset) ≡ length (bring_three 5 6 7 x ++ tested offset) = ap length whole in
    let next : p + 4 * length (bring_three 5 6 7 x) + 8 + 4 ≡ p + 4 * length (test_words x offset) = omega arith in
    let at : p + 4 * length (bring_three 5 6 7 x) + 8 ≡ p + 4 * length (fetch_operand x) = omega arith in
    let P : List Form → Type 0 = λ code. IsPlaced words p code in
    let go = tests_go words g front v p offset (λ is. stage_brings words g 5 6 7 x (Some v) p is (omega arith) keeping_six keeping_seven gives) (subst P whole placed) in
    let to : turned (p + 4 * length (bring_three 5 6 7 x) + 8) offset v ≡ test_target p x offset v =
    ap (λ r. cond (v == 0) r (target (p + 4 * length (bring_three 5 6 7 x) + 8) offset)) next ∙ ap (λ r. cond (v == 0) (p + 4 * length (test_words x offset)) (target r offset)) at in
    let Q : ℕ → Type 0 = λ r. Goes words (resting g One) p (length (bring_three 5 6 7 x ++ tested offset)) (resting g One) r in
    let R : ℕ → Type 0 = λ n. Goes words (resting g One) p n (resting g One) (test_target p x offset v) in
    subst R (sym size2) (subst Q to go)

-- a number of instructions that may be larger
pub goes_within : {words : List ℕ} {v w : View} {p q m : ℕ} (n : ℕ) → m ≤ n → Goes words v p m w q → Goes words v p n w q
goes_within {words = words} {v = v} {w = w} {p = p} {q = q} {m = m} n few go =
    record { moves = λ is. moves_within words (Excepted WindowPoints words) (at_address v p) (at_address w q) m n few (go.moves is); kept = go.kept }

-- a test that goes over one word
pub passed_over : (p n m : ℕ) (v : ℕ) → m + 1 ≡ n → p + 4 * n ≤ 0x1000_0000 → cond (v == 0) (p + 4 * n) (target (p + 4 * m) (pos 8)) ≡ cond (v == 0) (p + 4 * n) (p + 4 * n + 4)
passed_over p n m v size small = let there : target (p + 4 * m) (pos 8) ≡ p + 4 * n + 4 = omega arith in ap (λ r. cond (v == 0) (p + 4 * n) r) there

pub branches_turn : (words : List ℕ) (g : Stage) (x : Operand) (v p : ℕ) (zero other : ℤ) → IsGiven g x (Some v) → IsPlaced words p (branch_words x zero other) →
    Goes words (resting g One) p (length (branch_words x zero other)) (resting g One) (branch_target p x zero other v)
branches_turn words g x v p zero other gives placed = by_value (v == 0) (subst at to go)
  where
    test : List Form
    test = test_words x (pos 8)

    jumps : List Form
    jumps = JAL 0 zero ∷ JAL 0 other ∷ []

    q : ℕ
    q = p + 4 * length test

    size : length (test_words x (pos 8)) ≡ length (fetch_operand x) + 1
    size = length-append (fetch_operand x) (BNE 5 0 (pos 8) ∷ [])

    whole : length (branch_words x zero other) ≡ length (test_words x (pos 8)) + 2
    whole = length-append test jumps

    at : ℕ → Type 0
    at r = Goes words (resting g One) p (length test) (resting g One) r

    go : at (test_target p x (pos 8) v)
    go = tests_turn words g x v p (pos 8) gives (placed_front words p test jumps placed)

    to : test_target p x (pos 8) v ≡ cond (v == 0) q (q + 4)
    to = passed_over p (length test) (length (fetch_operand x)) v (sym size) (omega (arith, placed.room, whole))

    back : IsPlaced words q jumps
    back = placed_back words p test jumps placed

    by_value : (b : Bool) → at (cond b q (q + 4)) → Goes words (resting g One) p (length (branch_words x zero other)) (resting g One) (cond b (target q zero) (target (q + 4) other))
    by_value true one = goes_within (length (branch_words x zero other)) (omega (arith, whole)) (goes_then one (jumps_go words (resting g One) q zero (placed_front words q (JAL 0 zero ∷ []) (JAL 0 other ∷ []) back)))
    by_value false one = goes_within (length (branch_words x zero other)) (omega (arith, whole)) (goes_then one (jumps_go words (resting g One) (q + 4) other (placed_back words q (JAL 0 zero ∷ []) (JAL 0 other ∷ []) back)))

pub unreachable_stays : (words : List ℕ) (v : View) (p : ℕ) → IsPlaced words p unreachable_words → Goes words v p 1 v p
unreachable_stays words v p placed =
    let here : target p (pos 0) ≡ p = omega (arith, placed.room) in
    let P : ℕ → Type 0 = λ r. Goes words v p 1 v r in
    subst P here (jumps_go words v p (pos 0) placed)
