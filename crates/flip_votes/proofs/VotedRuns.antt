-- Words after a vote, while it stands: what is known of x2 stays, and of all else a view says it.
use Rattle.std.proofs.Common.{◌≡◌, ◌≢◌, ℕ, ◌+◌, ◌*◌, ◌<◌, ◌==◌, inl, inr, Bool, true, false, List, [], ◌∷◌, ◌++◌, length, Option, Some, None, refl, sym, ◌∙◌, ap, subst, arith, length-append}
use Rattle.std.specs.Prelude.{pos, ◌&&◌, ◌||◌}
use Rattle.std.specs.List.{list_all}
use Rattle.std.proofs.lemmas.Bool.{and_parts}
use Rattle.std.proofs.lemmas.Bool.Decides.{nat_tests}
use Rattle.rv_inst.specs.declared.instruction.Form.{Form}
use Rattle.rv_inst.specs.declared.instruction.Form.TheVariants.{LD, SD}
use Rattle.rv_inst.specs.declared.table.Group.{Group}
use Rattle.rv_inst.specs.declared.table.Group.TheVariants.{Constants, Addresses, Jumps, RegisterJumps, Branches, Loads, Stores, Immediates, Registers, Calls}
use Rattle.rv_inst.specs.Forms.{kind_of, operands_of}
use Rattle.rv_inst.specs.Groups.{group_of}
use Rattle.rv_inst.specs.Window.{IsWindowPoint}
use Rattle.rv_model.specs.State.{plus64}
use Rattle.rv_model.specs.Operations.{bits64, operation}
use Rattle.rv_model.specs.Text.{text_base}
use Rattle.rv_flips.specs.Cells.{Cell, Has, Sure, SaysLess}
use Rattle.rv_flips.specs.Assertion.{KnowsLess, with_register, after_write}
use Rattle.rv_flips.specs.Computing.{Keeps, KeepsOperands}
use Rattle.rv_flips.specs.Moves.{Covered}
use Rattle.rv_flips.proofs.CellLemmas.{with_register-same, with_register-other, says_same}
use Rattle.rv_flips.proofs.KnownRegisters.{covered}
use Rattle.flip_words.specs.Memory.{after_store}
use Rattle.flip_words.specs.Placed.{WindowPoints, Excepted, Carries}
use Rattle.flip_words.specs.Words.{slot_address, IsSlotAddress, only_computes}
use Rattle.flip_words.proofs.CarryLemmas.{joined, carries_none, carries_less}
use Rattle.flip_words.proofs.LessLemmas.{says_again, knows_same, knows_regs, written_says, written_less}
use Rattle.flip_words.proofs.ComputeLaws.{compute_carries, group_carries}
use Rattle.flip_words.proofs.SlotLaws.{load_carries, store_carries, anything_carries}
use Rattle.flip_frames.specs.Views.{View, IsView, is_scratch, version, view_cell, at_address, with_value, with_scratch}
use Rattle.flip_frames.specs.Computing.{operand_in, of_both, computed_by, computed, effect_of, is_operand, is_pure}
use Rattle.flip_frames.specs.Slots.{IsInData, with_slot}
use Rattle.flip_frames.proofs.ViewLemmas.{scratch_above, view_cell-zero, view_cell-scratch, view_cell-file, with_value-same, with_value-other, scratch_kept}
use Rattle.flip_frames.proofs.RunLaws.{version_uncoded, cells_say}
use Rattle.flip_frames.proofs.Votes.{sures_voted, slot_kept}
use Rattle.flip_votes.specs.Votes.{voted, VoteStands, RunsVoted, voted_load, voted_store}

abbrev regs_of : View → ℕ → Cell
regs_of v = view_cell v.stage v.tag v.file

abbrev right_pointer : View → Cell
right_pointer v = Has Sure (slot_address v.stage.base)

-- what is written over both says the same
over_both : (regs less : ℕ → Cell) (d : ℕ) (cell : Cell) (q : ℕ) → SaysLess (regs q) (less q) → SaysLess (with_register regs d cell q) (with_register less d cell q)
over_both regs less d cell q says = by_place (q == d) refl
  where
    by_place : (b : Bool) → (q == d) ≡ b → SaysLess (with_register regs d cell q) (with_register less d cell q)
    by_place true e =
        let same : d ≡ q = grind (arith, nat_tests) in
        let P : ℕ → Type 0 = λ k. SaysLess (with_register regs d cell k) (with_register less d cell k) in
        subst P same (rw (with_register-same regs d cell, with_register-same less d cell) (says_again cell))
    by_place false e =
        let other : q ≢ d = grind (arith, nat_tests) in
        rw (with_register-other regs d q cell other, with_register-other less d q cell other) says

-- ---- joining
stands_front : (words : List ℕ) (p : ℕ) (xs ys : List Form) → VoteStands words p (xs ++ ys) → VoteStands words p xs
stands_front words p xs ys stands k h = stands k (omega (arith, length-append xs ys))

stands_back : (words : List ℕ) (p : ℕ) (xs ys : List Form) → VoteStands words p (xs ++ ys) → VoteStands words (p + 4 * length xs) ys
stands_back words p xs ys stands k h =
    let there : p + 4 * (length xs + k) ≡ p + 4 * length xs + 4 * k = omega arith in
    let P : ℕ → Type 0 = λ q. IsWindowPoint words text_base q 2 in
    subst P there (stands (length xs + k) (omega (arith, length-append xs ys)))

pub voted_then : {words : List ℕ} {xs ys : List Form} {u v w : View} → RunsVoted words xs u v → RunsVoted words ys v w → RunsVoted words (xs ++ ys) u w
voted_then {words = words} {xs = xs} {ys = ys} {u = u} {w = w} one two =
    record {
      carries = λ is p stands.
          let there : p + 4 * length xs + 4 * length ys ≡ p + 4 * length (xs ++ ys) = omega (arith, length-append xs ys) in
          let P : ℕ → Type 0 = λ q. Carries words (Excepted WindowPoints words) (xs ++ ys) (voted u p) (voted w q) in
          subst P there (joined (one.carries is p (stands_front words p xs ys stands)) (two.carries (one.kept is) (p + 4 * length xs) (stands_back words p xs ys stands)));
      kept = λ is. two.kept (one.kept is);
    }

pub voted_none : (words : List ℕ) (v : View) → RunsVoted words [] v v
voted_none words v =
    record {
      carries = λ is p stands.
          let there : p ≡ p + 4 * 0 = omega arith in
          let P : ℕ → Type 0 = λ q. Carries words (Excepted WindowPoints words) [] (voted v p) (voted v q) in
          subst P there (carries_none words (Excepted WindowPoints words) (voted v p));
      kept = λ is. is;
    }

-- less is known of scratch registers afterwards
pub voted_less : {words : List ℕ} {code : List Form} {v w : View} (file : ℕ → Option ℕ) → ((q : ℕ) → SaysLess (version w.tag (w.file q)) (version w.tag (file q))) → RunsVoted words code v w
    → RunsVoted words code v (record w { file = file })
voted_less {words = words} {code = code} {v = v} {w = w} file says one =
    record {
      carries = λ is p stands.
          let q = p + 4 * length code in
          carries_less (knows_same (voted v p)) (one.carries is p stands)
          (knows_regs (at_address w q) q q (with_register (regs_of w) 2 (right_pointer w)) (with_register (view_cell w.stage w.tag file) 2 (right_pointer w)) refl
          (λ k. over_both (regs_of w) (view_cell w.stage w.tag file) 2 (right_pointer w) k (cells_say w.stage w.tag w.tag w.file file k (says k))));
      kept = λ is. let still = one.kept is in record { tag = still.tag; places = still.places; size = still.size; base = still.base };
    }

-- ---- one word
-- x2 alone is kept for sure, and is at a window point
covered_voted : (words : List ℕ) (v : View) (p : ℕ) → IsView v → IsWindowPoint words text_base p 2 → Covered (Excepted WindowPoints words) (voted v p)
covered_voted words v p is window = covered (Excepted WindowPoints words) (voted v p) (2 ∷ []) (sures_voted v is) (window, tt)

pub word_voted : (words : List ℕ) (form : Form) (v w : View) → (IsView v → IsView w) →
    ((p : ℕ) → IsView v → Covered (Excepted WindowPoints words) (voted v p) → Carries words (Excepted WindowPoints words) (form ∷ []) (voted v p) (voted w (p + 4))) → RunsVoted words (form ∷ []) v w
word_voted words form v w kept law =
    record {
      carries = λ is p stands.
          let here : p + 4 * 0 ≡ p = omega arith in
          let P : ℕ → Type 0 = λ q. IsWindowPoint words text_base q 2 in
          law p is (covered_voted words v p is (subst P here (stands 0 (omega arith))));
      kept = kept;
    }

-- a scratch register that is written leaves the vote
pub scratch_voted : (v : View) (r : ℕ) (o : Option ℕ) (cell : Cell) (p q : ℕ) → is_scratch r ≡ true → SaysLess cell (version v.tag o) → q ≡ p → KnowsLess (after_write (voted v p) r cell p) (voted (with_scratch v r o) q)
scratch_voted v r o cell p q scratch says at =
    knows_regs (at_address v p) p q (with_register (with_register (regs_of v) 2 (right_pointer v)) r cell) (with_register after 2 (right_pointer v)) at
    (written_less (with_register (regs_of v) 2 (right_pointer v)) (with_register after 2 (right_pointer v)) r cell own others)
  where
    after : ℕ → Cell
    after = view_cell v.stage v.tag (with_value v.file r o)

    apart : r ≢ 2
    apart = let above : 4 < r = scratch_above r scratch in omega arith

    own : SaysLess cell (with_register after 2 (right_pointer v) r)
    own =
        rw (with_register-other after 2 r (right_pointer v) apart, view_cell-scratch v.stage v.tag (with_value v.file r o) r scratch, with_value-same v.file r o) says

    others : (k : ℕ) → k ≢ r → SaysLess (with_register (regs_of v) 2 (right_pointer v) k) (with_register after 2 (right_pointer v) k)
    others k ne =
        over_both (regs_of v) after 2 (right_pointer v) k
        (says_same (regs_of v k) (after k) (view_cell-file v.stage v.tag v.file (with_value v.file r o) k (sym (with_value-other v.file r k o ne))))

-- slot n is where the voted stack pointer leads
slot_there : (v : View) (p n : ℕ) → IsView v → IsInData v n → IsSlotAddress (voted v p) 2 (pos (8 * n)) (v.stage.base + n)
slot_there v p n is within =
    let leads : plus64 (slot_address v.stage.base) (8 * n) ≡ slot_address (v.stage.base + n) = omega (arith, is.size, is.base) in
    record { base = slot_address v.stage.base; right = with_register-same (regs_of v) 2 (right_pointer v); leads = leads; within = within }

pub load_voted : (words : List ℕ) (v : View) (r n : ℕ) (o : Option ℕ) → is_scratch r ≡ true → IsInData v n → v.stage.slots (v.stage.base + n) ≡ version v.tag o → RunsVoted words (voted_load r n) v (with_scratch v r o)
load_voted words v r n o scratch within holds =
    word_voted words (LD r 2 (pos (8 * n))) v (with_scratch v r o) (scratch_kept v r o)
    (λ p is covered.
    let above : 4 < r = scratch_above r scratch in
    let cell = v.stage.slots (v.stage.base + n) in
    carries_less (knows_same (voted v p)) (load_carries words (Excepted WindowPoints words) (voted v p) r 2 (pos (8 * n)) (v.stage.base + n) (slot_there v p n is within) (omega arith) covered)
    (scratch_voted v r o (v.stage.slots (v.stage.base + n)) (p + 4) (p + 4) scratch (says_same (v.stage.slots (v.stage.base + n)) (version v.tag o) holds) refl))

-- after the store the slot holds the version
store_less : (v : View) (r n p : ℕ) → is_scratch r ≡ true → KnowsLess (after_store (voted v p) (v.stage.base + n) ((voted v p).regs r) p) (voted (with_slot v n (v.file r)) p)
unfolding view_cell
store_less v r n p scratch =
    let above : 4 < r = scratch_above r scratch in
    let apart : r ≢ 2 = omega arith in
    let k = v.stage.base + n in
    let cell : with_register (view_cell v.stage v.tag v.file) 2 (Has Sure (slot_address v.stage.base)) r ≡ version v.tag (v.file r) =
    with_register-other (view_cell v.stage v.tag v.file) 2 r (Has Sure (slot_address v.stage.base)) apart ∙ view_cell-scratch v.stage v.tag v.file r scratch in
    record {
      pc = refl;
      regs = λ q damage x h. h;
      slots = written_says v.stage.slots v.stage.slots k (with_register (view_cell v.stage v.tag v.file) 2 (Has Sure (slot_address v.stage.base)) r) (version v.tag (v.file r)) (rw cell (says_again (version v.tag (v.file r)))) (λ q ne. says_again (v.stage.slots q));
      bytes = λ o x h. h;
      size = refl;
      input = refl;
      out = refl;
    }

pub store_voted : (words : List ℕ) (v : View) (r n : ℕ) → is_scratch r ≡ true → IsInData v n → RunsVoted words (voted_store r n) v (with_slot v n (v.file r))
store_voted words v r n scratch within =
    word_voted words (SD 2 r (pos (8 * n))) v (with_slot v n (v.file r)) (slot_kept v n (v.file r))
    (λ p is covered.
    carries_less (knows_same (voted v p)) (store_carries words (Excepted WindowPoints words) (voted v p) 2 r (pos (8 * n)) (v.stage.base + n) (slot_there v p n is within) covered) (store_less v r n (p + 4) scratch))

-- ---- words that compute
some_is : (v w : ℕ) → ◌≡◌ {A = Option ℕ} (Some v) (Some w) → v ≡ w
some_is v w e = cc

-- an operand whose value is known is kept with the view's tag, or is x0
keeps_operand : (v : View) (p r x : ℕ) → is_operand r ≡ true → operand_in v.file r ≡ Some x → Keeps (voted v p).regs v.tag r x
keeps_operand v p r x operand e = by_zero (r == 0) refl
  where
    same : r ≢ 2 → with_register (regs_of v) 2 (right_pointer v) r ≡ regs_of v r
    same apart = with_register-other (regs_of v) 2 r (right_pointer v) apart

    by_zero : (b : Bool) → (r == 0) ≡ b → Keeps (voted v p).regs v.tag r x
    by_zero true z =
        let none : r ≡ 0 = grind (arith, nat_tests) in
        let value : operand_in v.file r ≡ Some 0 = rw z refl in
        let is : 0 ≡ x = some_is 0 x (sym value ∙ e) in
        inr (same (omega arith) ∙ ap (regs_of v) none ∙ view_cell-zero v.stage v.tag v.file ∙ ap (Has Sure) is)
    by_zero false z =
        let scratch : is_scratch r ≡ true = ap (λ b. b || is_scratch r) (sym z) ∙ operand in
        let above : 4 < r = scratch_above r scratch in
        let value : operand_in v.file r ≡ v.file r = rw z refl in
        inl (same (omega arith) ∙ view_cell-scratch v.stage v.tag v.file r scratch ∙ ap (version v.tag) (sym value ∙ e))

-- the parts of the test of a word that computes
pub record PureParts (form : Form) : Type 0 where
  pub only : only_computes form ≡ true
  pub rd : is_scratch (operands_of form).rd ≡ true
  pub rs1 : is_operand (operands_of form).rs1 ≡ true
  pub rs2 : is_operand (operands_of form).rs2 ≡ true

pub pure_parts : (form : Form) → is_pure form ≡ true → PureParts form
pure_parts form e =
    let a = and_parts (only_computes form) (is_scratch (operands_of form).rd && (is_operand (operands_of form).rs1 && is_operand (operands_of form).rs2)) e in
    let b = and_parts (is_scratch (operands_of form).rd) (is_operand (operands_of form).rs1 && is_operand (operands_of form).rs2) a.1 in
    let c = and_parts (is_operand (operands_of form).rs1) (is_operand (operands_of form).rs2) b.1 in
    record { only = a.0; rd = b.0; rs1 = c.0; rs2 = c.1 }

-- one word that computes
pub computing_voted : (words : List ℕ) (form : Form) (v : View) → is_pure form ≡ true → RunsVoted words (form ∷ []) v (with_scratch v (operands_of form).rd (computed form v.file))
computing_voted words form v pure =
    word_voted words form v (with_scratch v (operands_of form).rd (computed form v.file)) (scratch_kept v (operands_of form).rd (computed form v.file))
    (λ p is covered.
    let cell = version v.tag (computed form v.file) in
    carries_less (knows_same (voted v p)) (by_group is p covered (group_of (kind_of form)) refl)
    (scratch_voted v (operands_of form).rd (computed form v.file) (version v.tag (computed form v.file)) (p + 4) (p + 4) ((pure_parts form pure).rd) (says_again (version v.tag (computed form v.file))) refl))
  where
    gives : ℕ → Option ℕ → Type 0
    gives p o = Carries words (Excepted WindowPoints words) (form ∷ []) (voted v p) (after_write (voted v p) (operands_of form).rd (version v.tag o) (p + 4))

    rd_above : 0 < (operands_of form).rd
    rd_above = let above = scratch_above (operands_of form).rd ((pure_parts form pure).rd) in omega arith

    nothing : (p : ℕ) → Covered (Excepted WindowPoints words) (voted v p) → gives p None
    nothing p covered = anything_carries words (Excepted WindowPoints words) (voted v p) form ((pure_parts form pure).only) rd_above covered

    known : IsView v → (p x y : ℕ) → Covered (Excepted WindowPoints words) (voted v p) → KeepsOperands (group_of (kind_of form)) (operands_of form) (voted v p).regs v.tag x y → gives p (Some (operation (kind_of form) x y))
    known is p x y covered keeps = compute_carries words (Excepted WindowPoints words) (voted v p) form v.tag x y keeps (version_uncoded v.tag is.tag) rd_above covered

    immediate : IsView v → (p : ℕ) → Covered (Excepted WindowPoints words) (voted v p) → group_of (kind_of form) ≡ Immediates → (a : Option ℕ) → operand_in v.file (operands_of form).rs1 ≡ a →
        gives p (of_both (operation (kind_of form)) a (Some (bits64 (operands_of form).imm)))
    immediate is p covered e None f = nothing p covered
    immediate is p covered e (Some x) f =
        let P : Group → Type 0 = λ g. KeepsOperands g (operands_of form) (voted v p).regs v.tag x (bits64 (operands_of form).imm) in
        known is p x (bits64 (operands_of form).imm) covered (subst P (sym e) (keeps_operand v p (operands_of form).rs1 x ((pure_parts form pure).rs1) f, refl))

    registers : IsView v → (p : ℕ) → Covered (Excepted WindowPoints words) (voted v p) → group_of (kind_of form) ≡ Registers → (a b : Option ℕ) → operand_in v.file (operands_of form).rs1 ≡ a →
        operand_in v.file (operands_of form).rs2 ≡ b → gives p (of_both (operation (kind_of form)) a b)
    registers is p covered e None b f h = nothing p covered
    registers is p covered e (Some x) None f h = nothing p covered
    registers is p covered e (Some x) (Some y) f h =
        let P : Group → Type 0 = λ g. KeepsOperands g (operands_of form) (voted v p).regs v.tag x y in
        known is p x y covered
        (subst P (sym e) (keeps_operand v p (operands_of form).rs1 x ((pure_parts form pure).rs1) f, keeps_operand v p (operands_of form).rs2 y ((pure_parts form pure).rs2) h))

    by_group : IsView v → (p : ℕ) → Covered (Excepted WindowPoints words) (voted v p) → (g : Group) → group_of (kind_of form) ≡ g → gives p (computed_by g (kind_of form) (operands_of form) v.file)
    by_group is p covered Constants e = group_carries words (Excepted WindowPoints words) (voted v p) form v.tag e rd_above covered
    by_group is p covered Immediates e = immediate is p covered e (operand_in v.file (operands_of form).rs1) refl
    by_group is p covered Registers e = registers is p covered e (operand_in v.file (operands_of form).rs1) (operand_in v.file (operands_of form).rs2) refl refl
    by_group is p covered Addresses e = nothing p covered
    by_group is p covered Jumps e = nothing p covered
    by_group is p covered RegisterJumps e = nothing p covered
    by_group is p covered Branches e = nothing p covered
    by_group is p covered Loads e = nothing p covered
    by_group is p covered Stores e = nothing p covered
    by_group is p covered Calls e = nothing p covered

pub pure_voted : (words : List ℕ) (code : List Form) (v : View) → list_all is_pure code ≡ true → RunsVoted words code v (record v { file = effect_of code v.file })
pure_voted words [] v e = voted_none words v
pure_voted words (i ∷ is) v e =
    let both = and_parts (is_pure i) (list_all is_pure is) e in
    voted_then (computing_voted words i v both.0) (pure_voted words is (with_scratch v (operands_of i).rd (computed i v.file)) both.1)
