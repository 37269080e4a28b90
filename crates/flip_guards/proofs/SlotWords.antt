-- Slots, near and far, that come into any register or go from it.
use Rattle.std.proofs.Common.{◌≡◌, ◌≢◌, ℕ, ◌+◌, ◌*◌, ◌<◌, ◌≤◌, ◌==◌, inl, Bool, true, false, cond, List, [], ◌∷◌, length, take, drop, Option, Some, refl, ◌∙◌, ap, subst, arith, lit<}
use Rattle.std.specs.Prelude.{ℤ, pos}
use Rattle.std.proofs.lemmas.Bool.Decides.{nat_tests}
use Rattle.rv_inst.specs.declared.instruction.Form.{Form}
use Rattle.rv_inst.specs.declared.instruction.Form.TheVariants.{LUI, ADDI, ADD, BEQ, LD, SD}
use Rattle.rv_model.specs.State.{plus64}
use Rattle.rv_model.specs.Operations.{bits64, upper_value}
use Rattle.rv_flips.specs.Cells.{Tag, Sure, One, Two, Cell, Free, Has, SaysLess}
use Rattle.rv_flips.specs.Assertion.{Assertion, with_register, after_write}
use Rattle.rv_flips.proofs.CellLemmas.{with_register-same, with_register-other, says_same, says_free, sure_says}
use Rattle.flip_words.specs.Memory.{after_store}
use Rattle.flip_words.specs.Placed.{WindowPoints, AllPoints, Excepted, Carries}
use Rattle.flip_words.specs.Joining.{promoted_cell, promoted}
use Rattle.flip_words.specs.Words.{slot_address, IsSlotAddress}
use Rattle.flip_words.proofs.CarryLemmas.{joined, carries_less}
use Rattle.flip_words.proofs.LessLemmas.{says_again, says_then, knows_same, knows_regs, promoted_says, written_says}
use Rattle.flip_words.proofs.ComputeLaws.{compute_carries, upper_carries}
use Rattle.flip_words.proofs.SlotLaws.{store_carries}
use Rattle.flip_frames.specs.Views.{version}
use Rattle.flip_frames.specs.Slots.{near_load, near_store, far_load, far_store, far_high, far_low, is_near, any_load, any_store, IsOffset}
use Rattle.flip_frames.proofs.AnySlots.{far_offset}
use Rattle.flip_guards.specs.Guards.{KeptRegister, Kept, over, Guard, guard_at}
use Rattle.flip_guards.specs.Slots.{IsFramed, IsReached, used_up}
use Rattle.flip_guards.proofs.Lines.{forgets, without, put_in, over-without, written_over, sures_of, all_in_windows, Line, line_start, line_word, line_carries}
use Rattle.flip_guards.proofs.LineWords.{line_upper, line_compute, line_load, line_check, line_repair}

-- the guard around what is known before
abbrev around : Assertion → List KeptRegister → Guard
around c ks = record { around = c; kept = ks }

-- what is known after an access
abbrev after_access : Assertion → ℕ → (ℕ → Cell) → Assertion
after_access c p regs = record c { pc = p; regs = regs }

-- the registers when x28 and x29 are used up
abbrev pub used_regs : (ℕ → Cell) → ℕ → Cell
used_regs regs = with_register (with_register regs 28 Free) 29 Free

pub used_less : (regs : ℕ → Cell) (q : ℕ) → SaysLess (regs q) (used_regs regs q)
used_less regs q = says_then (regs q) (with_register regs 28 Free q) (used_regs regs q) (forgets regs 28 q) (forgets (with_register regs 28 Free) 29 q)

used-first : (regs : ℕ → Cell) → used_regs regs 28 ≡ Free
used-first regs = let apart : 28 ≢ 29 = omega arith in with_register-other (with_register regs 28 Free) 29 28 Free apart ∙ with_register-same regs 28 Free

used-second : (regs : ℕ → Cell) → used_regs regs 29 ≡ Free
used-second regs = with_register-same (with_register regs 28 Free) 29 Free

pub used-other : (regs : ℕ → Cell) (q : ℕ) → q ≢ 28 → q ≢ 29 → used_regs regs q ≡ regs q
used-other regs q ne ne' = with_register-other (with_register regs 28 Free) 29 q Free ne' ∙ with_register-other regs 28 q Free ne

-- kept registers that say less afterwards
pub kept_less : (ks : List KeptRegister) (regs less : ℕ → Cell) (d : ℕ) (tag : Tag) (o : Option ℕ) → SaysLess (version tag o) (less d) → ((q : ℕ) → q ≢ d → SaysLess (over ks regs q) (less q)) → (q : ℕ) → SaysLess (over (Kept d tag o ∷ ks) regs q) (less q)
kept_less ks regs less d tag o own others q = by_place (q == d) refl
  where
    by_place : (b : Bool) → (q == d) ≡ b → SaysLess (cond b (version tag o) (over ks regs q)) (less q)
    by_place true e =
        let same : d ≡ q = grind (arith, nat_tests) in
        let P : ℕ → Type 0 = λ k. SaysLess (version tag o) (less k) in
        subst P same own
    by_place false e = others q (grind (arith, nat_tests))

-- the same of a register that is written
pub put_less : (ks : List KeptRegister) (regs less : ℕ → Cell) (d : ℕ) (tag : Tag) (o : Option ℕ) → SaysLess (version tag o) (less d) → ((q : ℕ) → q ≢ d → SaysLess (over ks regs q) (less q)) → (q : ℕ) → SaysLess (over (put_in d tag o ks) regs q) (less q)
put_less ks regs less d tag o own others = kept_less (without d ks) regs less d tag o own (λ q ne. rw (over-without ks regs d q ne) (others q ne))

-- slot n is where the voted stack pointer leads
near_there : (c : Assertion) (base n : ℕ) (ks : List KeptRegister) (q : ℕ) → IsFramed c base → IsReached c base n → over ks c.regs 2 ≡ Has Sure (slot_address base) → IsSlotAddress (guard_at (around c ks) q) 2 (pos (8 * n)) (base + n)
near_there c base n ks q framed reached right =
    let leads : plus64 (slot_address base) (8 * n) ≡ slot_address (base + n) = omega (arith, framed.size, framed.frame, reached.within) in
    record { base = slot_address base; right = right; leads = leads; within = reached.within }

far_sum : (u l b k : ℕ) → 8 * (b + k) + 8 ≤ 0x4000_0000 → plus64 u l ≡ 8 * k → plus64 (plus64 u (slot_address b)) l ≡ slot_address (b + k)
far_sum u l b k small e = omega arith

-- the stack pointer with an upper part added
abbrev far_base : ℕ → ℤ → ℕ
far_base base high = plus64 (upper_value high) (slot_address base)

far_there : (c : Assertion) (base n : ℕ) (high low : ℤ) (ks : List KeptRegister) (q : ℕ) → IsFramed c base → IsReached c base n → IsOffset high low n → over ks c.regs 28 ≡ Has Sure (far_base base high) →
    IsSlotAddress (guard_at (around c ks) q) 28 low (base + n)
far_there c base n high low ks q framed reached offset right =
    let leads : plus64 (plus64 (upper_value high) (slot_address base)) (bits64 low) ≡ slot_address (base + n) = far_sum (upper_value high) (bits64 low) base n (omega (arith, framed.size, reached.within)) offset in
    record { base = far_base base high; right = right; leads = leads; within = reached.within }

-- the vote
abbrev voted : ℕ → List KeptRegister
voted base = Kept 2 Sure (Some (slot_address base)) ∷ []

vote_line : (words : List ℕ) (c : Assertion) (base : ℕ) (j : Form) → IsFramed c base → Line words (BEQ 2 3 (pos 8) ∷ ADDI 2 4 (pos 0) ∷ j ∷ []) (around c []) 2 (around c (voted base))
vote_line words c base j framed =
    line_check 2 3 4 (slot_address base) refl framed.one framed.two framed.three (lit< tt) refl (line_start words (BEQ 2 3 (pos 8) ∷ ADDI 2 4 (pos 0) ∷ j ∷ []) (around c []))

-- after it the first copy of the stack pointer is one of three again
vote_less : (regs less : ℕ → Cell) (base q : ℕ) → less 2 ≡ Has One (slot_address base) → (q ≢ 2 → SaysLess (regs q) (less q)) → SaysLess (over (voted base) regs q) (less q)
vote_less regs less base q two others = by_place (q == 2) refl
  where
    by_place : (b : Bool) → (q == 2) ≡ b → SaysLess (cond b (Has Sure (slot_address base)) (regs q)) (less q)
    by_place true e =
        let same : 2 ≡ q = grind (arith, nat_tests) in
        let P : ℕ → Type 0 = λ k. SaysLess (Has Sure (slot_address base)) (less k) in
        subst P same (rw two (sure_says One (slot_address base)))
    by_place false e = others (grind (arith, nat_tests))

-- the registers after a load into r
abbrev loaded_regs : (ℕ → Cell) → ℕ → Tag → Option ℕ → ℕ → Cell
loaded_regs regs r tag o = with_register (used_regs regs) r (version tag o)

loaded-own : (regs : ℕ → Cell) (r : ℕ) (tag : Tag) (o : Option ℕ) → SaysLess (version tag o) (loaded_regs regs r tag o r)
loaded-own regs r tag o = rw (with_register-same (used_regs regs) r (version tag o)) (says_again (version tag o))

loaded-other : (regs : ℕ → Cell) (r q : ℕ) (tag : Tag) (o : Option ℕ) → q ≢ r → q ≢ 28 → q ≢ 29 → loaded_regs regs r tag o q ≡ regs q
loaded-other regs r q tag o ne ne28 ne29 = with_register-other (used_regs regs) r q (version tag o) ne ∙ used-other regs q ne28 ne29

loaded_less : (regs : ℕ → Cell) (r q : ℕ) (tag : Tag) (o : Option ℕ) → q ≢ r → SaysLess (regs q) (loaded_regs regs r tag o q)
loaded_less regs r q tag o ne = rw (with_register-other (used_regs regs) r q (version tag o) ne) (used_less regs q)

near_loads : (words : List ℕ) (c : Assertion) (base r n : ℕ) (tag : Tag) (o : Option ℕ) → IsFramed c base → IsReached c base n → c.slots (base + n) ≡ version tag o → 4 < r →
    Carries words (Excepted WindowPoints words) (near_load r n) c (after_access c (c.pc + 12) (loaded_regs c.regs r tag o))
near_loads words c base r n tag o framed reached holds above =
    let line = line_load r 2 (pos (8 * n)) (base + n) tag o refl (omega arith) (λ q. near_there c base n (voted base) q framed reached refl) holds refl (vote_line words c base (LD r 2 (pos (8 * n))) framed) in
    let two : loaded_regs c.regs r tag o 2 ≡ Has One (slot_address base) = loaded-other c.regs r 2 tag o (omega arith) (omega arith) (omega arith) ∙ framed.one in
    carries_less (knows_same c) (line_carries framed.sures c.pc line)
    (knows_regs c (c.pc + 12) (c.pc + 12) (over (put_in r tag o (voted base)) c.regs) (loaded_regs c.regs r tag o) refl
    (put_less (voted base) c.regs (loaded_regs c.regs r tag o) r tag o (loaded-own c.regs r tag o)
    (λ q ne. vote_less c.regs (loaded_regs c.regs r tag o) base q two (λ ne2. loaded_less c.regs r q tag o ne))))

-- a store by a right address, whatever is known of the register
abbrev stored_guard : Guard → ℕ → Cell → Guard
stored_guard γ n cell = record γ { around = after_store γ.around n cell γ.around.pc }

line_store : {words : List ℕ} {code : List Form} {start γ : Guard} {k : ℕ} (a r : ℕ) (imm : ℤ) (n : ℕ) (cell : Cell) → take 1 (drop k code) ≡ SD a r imm ∷ [] → ((q : ℕ) → IsSlotAddress (guard_at γ q) a imm n) → over γ.kept γ.around.regs r ≡ cell →
    all_in_windows code k (sures_of γ.kept) ≡ true → Line words code start k γ → Line words code start (k + 1) (stored_guard γ n cell)
line_store {words = words} {γ = γ} a r imm n cell e there holds windows line =
    line_word (SD a r imm) (stored_guard γ n cell) e windows
    (λ q covered. carries_less (knows_same (guard_at γ q)) (store_carries words (Excepted WindowPoints words) (guard_at γ q) a r imm n (there q) covered)
    (record {
      pc = refl;
      regs = λ r damage x h. h;
      slots = written_says γ.around.slots γ.around.slots n (over γ.kept γ.around.regs r) cell (says_same (over γ.kept γ.around.regs r) cell holds) (λ q ne. says_again (γ.around.slots q));
      bytes = λ o x h. h;
      size = refl;
      input = refl;
      out = refl;
    }))
    (λ calm. calm) line

-- what is known after a store
abbrev after_kept : Assertion → ℕ → ℕ → Cell → Assertion
after_kept c n p cell = after_store (used_up c p) n cell p

near_stores : (words : List ℕ) (c : Assertion) (base r n : ℕ) → IsFramed c base → IsReached c base n → 4 < r → Carries words (Excepted WindowPoints words) (near_store r n) c (after_kept c (base + n) (c.pc + 12) (c.regs r))
near_stores words c base r n framed reached above =
    let other : over (voted base) c.regs r ≡ c.regs r = rw (apart_two r above) refl in
    let line = line_store 2 r (pos (8 * n)) (base + n) (c.regs r) refl (λ q. near_there c base n (voted base) q framed reached refl) other refl (vote_line words c base (SD 2 r (pos (8 * n))) framed) in
    let two : used_regs c.regs 2 ≡ Has One (slot_address base) = used-other c.regs 2 (omega arith) (omega arith) ∙ framed.one in
    carries_less (knows_same c) (line_carries framed.sures c.pc line)
    (knows_regs (after_kept c (base + n) (c.pc + 12) (c.regs r)) (c.pc + 12) (c.pc + 12) (over (voted base) c.regs) (used_regs c.regs) refl
    (λ q. vote_less c.regs (used_regs c.regs) base q two (λ ne2. used_less c.regs q)))
  where
    apart_two : (q : ℕ) → 4 < q → (q == 2) ≡ false
    apart_two q h = grind (arith, nat_tests)

-- both copies of a far address
abbrev copied : ℕ → ℤ → List KeptRegister
copied base high = Kept 29 Two (Some (far_base base high)) ∷ Kept 28 One (Some (far_base base high)) ∷ []

abbrev found : ℕ → ℤ → List KeptRegister
found base high = Kept 28 Sure (Some (far_base base high)) ∷ Kept 29 Two (Some (far_base base high)) ∷ []

-- a copy of the stack pointer with the upper part added, by its own words, where nothing has to be left out
repair_carries : (words : List ℕ) (c : Assertion) (base : ℕ) (high : ℤ) (q : ℕ) → IsFramed c base →
    Carries words (Excepted AllPoints words) (LUI 28 high ∷ ADD 28 28 4 ∷ []) (promoted (guard_at (around c (copied base high)) q) (q + 4)) (guard_at (around c (found base high)) (q + 12))
repair_carries words c base high q framed =
    let u = upper_value high in
    let sp = slot_address base in
    let c0 = promoted (guard_at (around c (copied base high)) q) (q + 4) in
    let c1 = after_write c0 28 (Has Sure u) (q + 4 + 4) in
    let own : c1.regs 28 ≡ Has Sure (upper_value high) = with_register-same c0.regs 28 (Has Sure (upper_value high)) in
    let four : c1.regs 4 ≡ Has Sure (slot_address base) = with_register-other c0.regs 28 4 (Has Sure (upper_value high)) (omega arith) ∙ ap promoted_cell framed.three in
    let there : q + 12 ≡ q + 4 + 4 + 4 = omega arith in
    let known = over (copied base high) c.regs in
    carries_less (knows_same c0)
    (joined (upper_carries words (Excepted AllPoints words) c0 28 high Sure (lit< tt) (λ r w e n. tt))
    (compute_carries words (Excepted AllPoints words) c1 (ADD 28 28 4) Sure u sp (inl own, inl four) tt (lit< tt) (λ r w e n. tt)))
    (record {
      pc = there;
      regs = λ r. says_then (with_register c1.regs 28 (Has Sure (far_base base high)) r) (with_register known 28 (Has Sure (far_base base high)) r) (over (found base high) c.regs r)
          (written_says c1.regs known 28 (Has Sure (far_base base high)) (Has Sure (far_base base high)) (says_again (Has Sure (far_base base high)))
          (λ q ne. rw (with_register-other c0.regs 28 q (Has Sure u) ne) (promoted_says (known q))) r)
          (written_over (copied base high) c.regs 28 Sure (Some (far_base base high)) (Has Sure (far_base base high)) (says_again (Has Sure (far_base base high))) r);
      slots = λ k. promoted_says (c.slots k);
      bytes = λ o x h. h;
      size = refl;
      input = refl;
      out = refl;
    })

abbrev far_words : ℤ → Form → List Form
far_words high j = LUI 28 high ∷ ADD 28 28 2 ∷ LUI 29 high ∷ ADD 29 29 3 ∷ BEQ 28 29 (pos 12) ∷ LUI 28 high ∷ ADD 28 28 4 ∷ j ∷ []

-- the right address stands in x28
address_line : (words : List ℕ) (c : Assertion) (base : ℕ) (high : ℤ) (j : Form) → IsFramed c base → Line words (far_words high j) (around c []) 7 (around c (found base high))
address_line words c base high j framed =
    let u = upper_value high in
    let sp = slot_address base in
    let l1 = line_upper 28 high One refl (lit< tt) refl (line_start words (far_words high j) (around c [])) in
    let l2 = line_compute (ADD 28 28 2) One u sp refl (inl refl, inl framed.one) tt (lit< tt) refl l1 in
    let l3 = line_upper 29 high Two refl (lit< tt) refl l2 in
    let l4 = line_compute (ADD 29 29 3) Two u sp refl (inl refl, inl framed.two) tt (lit< tt) refl l3 in
    line_repair 28 29 (far_base base high) (LUI 28 high ∷ ADD 28 28 4 ∷ []) refl refl refl refl (λ q. repair_carries words c base high q framed) l4

-- the address is forgotten
address_less : (regs less : ℕ → Cell) (base : ℕ) (high : ℤ) (q : ℕ) → (q ≡ 28 → less q ≡ Free) → (q ≡ 29 → less q ≡ Free) → (q ≢ 28 → q ≢ 29 → SaysLess (regs q) (less q)) → SaysLess (over (found base high) regs q) (less q)
address_less regs less base high q first second others = by_first (q == 28) refl
  where
    by_second : q ≢ 28 → (b : Bool) → (q == 29) ≡ b → SaysLess (cond b (Has Two (far_base base high)) (regs q)) (less q)
    by_second ne true e = rw (second (grind (arith, nat_tests))) (says_free (Has Two (far_base base high)))
    by_second ne false e = others ne (grind (arith, nat_tests))

    by_first : (b : Bool) → (q == 28) ≡ b → SaysLess (cond b (Has Sure (far_base base high)) (over (Kept 29 Two (Some (far_base base high)) ∷ []) regs q)) (less q)
    by_first true e = rw (first (grind (arith, nat_tests))) (says_free (Has Sure (far_base base high)))
    by_first false e = by_second (grind (arith, nat_tests)) (q == 29) refl

used_first : (regs : ℕ → Cell) (q : ℕ) → q ≡ 28 → used_regs regs q ≡ Free
used_first regs q e = ap (used_regs regs) e ∙ used-first regs

used_second : (regs : ℕ → Cell) (q : ℕ) → q ≡ 29 → used_regs regs q ≡ Free
used_second regs q e = ap (used_regs regs) e ∙ used-second regs

far_loads : (words : List ℕ) (c : Assertion) (base r n : ℕ) (high low : ℤ) (tag : Tag) (o : Option ℕ) → IsFramed c base → IsReached c base n → IsOffset high low n → c.slots (base + n) ≡ version tag o → 4 < r →
    Carries words (Excepted WindowPoints words) (far_load r high low) c (after_access c (c.pc + 32) (loaded_regs c.regs r tag o))
far_loads words c base r n high low tag o framed reached offset holds above =
    let less = loaded_regs c.regs r tag o in
    let line = line_load r 28 low (base + n) tag o refl (omega arith) (λ q. far_there c base n high low (found base high) q framed reached offset refl) holds refl (address_line words c base high (LD r 28 low) framed) in
    carries_less (knows_same c) (line_carries framed.sures c.pc line)
    (knows_regs c (c.pc + 32) (c.pc + 32) (over (put_in r tag o (found base high)) c.regs) less refl
    (put_less (found base high) c.regs less r tag o (loaded-own c.regs r tag o)
    (λ q ne. address_less c.regs less base high q
    (λ e. with_register-other (used_regs c.regs) r q (version tag o) ne ∙ used_first c.regs q e)
    (λ e. with_register-other (used_regs c.regs) r q (version tag o) ne ∙ used_second c.regs q e)
    (λ ne28 ne29. loaded_less c.regs r q tag o ne))))

far_stores : (words : List ℕ) (c : Assertion) (base r n : ℕ) (high low : ℤ) → IsFramed c base → IsReached c base n → IsOffset high low n → r ≢ 28 → r ≢ 29 →
    Carries words (Excepted WindowPoints words) (far_store r high low) c (after_kept c (base + n) (c.pc + 32) (c.regs r))
far_stores words c base r n high low framed reached offset ne28 ne29 =
    let other : over (found base high) c.regs r ≡ c.regs r = rw (apart r 28 ne28, apart r 29 ne29) refl in
    let line = line_store 28 r low (base + n) (c.regs r) refl (λ q. far_there c base n high low (found base high) q framed reached offset refl) other refl (address_line words c base high (SD 28 r low) framed) in
    carries_less (knows_same c) (line_carries framed.sures c.pc line)
    (knows_regs (after_kept c (base + n) (c.pc + 32) (c.regs r)) (c.pc + 32) (c.pc + 32) (over (found base high) c.regs) (used_regs c.regs) refl
    (λ q. address_less c.regs (used_regs c.regs) base high q (used_first c.regs q) (used_second c.regs q) (λ a b. used_less c.regs q)))
  where
    apart : (q d : ℕ) → q ≢ d → (q == d) ≡ false
    apart q d ne = grind (arith, nat_tests)

pub slots_come_in : (words : List ℕ) (c : Assertion) (base r n : ℕ) (tag : Tag) (o : Option ℕ) → IsFramed c base → IsReached c base n → c.slots (base + n) ≡ version tag o → 4 < r →
    Carries words (Excepted WindowPoints words) (any_load r n) c (after_write (used_up c (c.pc + 4 * length (any_load r n))) r (version tag o) (c.pc + 4 * length (any_load r n)))
slots_come_in words c base r n tag o framed reached holds above = by_size (is_near n)
  where
    by_size : (b : Bool) → Carries words (Excepted WindowPoints words) (cond b (near_load r n) (far_load r (far_high n) (far_low n))) c
        (after_access c (c.pc + 4 * length (cond b (near_load r n) (far_load r (far_high n) (far_low n)))) (loaded_regs c.regs r tag o))
    by_size true = near_loads words c base r n tag o framed reached holds above
    by_size false = far_loads words c base r n (far_high n) (far_low n) tag o framed reached (far_offset n reached.small) holds above

pub slots_take_up : (words : List ℕ) (c : Assertion) (base r n : ℕ) → IsFramed c base → IsReached c base n → 4 < r → r ≢ 28 → r ≢ 29 →
    Carries words (Excepted WindowPoints words) (any_store r n) c (after_store (used_up c (c.pc + 4 * length (any_store r n))) (base + n) (c.regs r) (c.pc + 4 * length (any_store r n)))
slots_take_up words c base r n framed reached above ne28 ne29 = by_size (is_near n)
  where
    by_size : (b : Bool) → Carries words (Excepted WindowPoints words) (cond b (near_store r n) (far_store r (far_high n) (far_low n))) c
        (after_kept c (base + n) (c.pc + 4 * length (cond b (near_store r n) (far_store r (far_high n) (far_low n)))) (c.regs r))
    by_size true = near_stores words c base r n framed reached above
    by_size false = far_stores words c base r n (far_high n) (far_low n) framed reached (far_offset n reached.small) ne28 ne29
