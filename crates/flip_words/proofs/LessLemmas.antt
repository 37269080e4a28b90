-- Assertions of which one says less than the other.
use Rattle.std.proofs.Common.{◌≡◌, ℕ, ◌+◌, ◌*◌, ◌==◌, ◌≢◌, Bool, true, false, List, length, refl, subst, arith}
use Rattle.std.proofs.lemmas.Bool.Decides.{nat_tests}
use Rattle.rv_inst.specs.declared.instruction.Form.{Form}
use Rattle.rv_flips.specs.Cells.{Three, Cell, Free, Has, SaysLess}
use Rattle.rv_flips.specs.Assertion.{Assertion, KnowsLess, with_register, after_write}
use Rattle.rv_flips.proofs.CellLemmas.{sure_says, with_register-same, with_register-other}
use Rattle.flip_words.specs.Placed.{IsPlaced, Carries}
use Rattle.flip_words.specs.Joining.{promoted_cell, promoted}

pub says_again : (cell : Cell) → SaysLess cell cell
says_again cell damage x h = h

pub says_then : (a b c : Cell) → SaysLess a b → SaysLess b c → SaysLess a c
says_then a b c one two damage x h = two damage x (one damage x h)

-- the same but for registers, at addresses that are equal
pub knows_regs : (c : Assertion) (p q : ℕ) (regs less : ℕ → Cell) → q ≡ p → ((r : ℕ) → SaysLess (regs r) (less r)) → KnowsLess (record c { pc = p; regs = regs }) (record c { pc = q; regs = less })
knows_regs c p q regs less at says = record { pc = at; regs = says; slots = λ k damage x h. h; bytes = λ o x h. h; size = refl; input = refl; out = refl }

pub knows_same : (c : Assertion) → KnowsLess c c
knows_same c = record { pc = refl; regs = λ r damage x h. h; slots = λ k damage x h. h; bytes = λ o x h. h; size = refl; input = refl; out = refl }

-- a promoted cell says more
pub promoted_says : (cell : Cell) → SaysLess (promoted_cell cell) cell
promoted_says Free damage x h = h
promoted_says (Has Three v) damage x h = sure_says Three v damage x h
promoted_says (Has _ v) damage x h = h

-- a place that is written says what its cell says, and each other what it said
pub written_says : (regs less : ℕ → Cell) (d : ℕ) (cell cell' : Cell) → SaysLess cell cell' → ((r : ℕ) → r ≢ d → SaysLess (regs r) (less r)) → (r : ℕ) → SaysLess (with_register regs d cell r) (with_register less d cell' r)
written_says regs less d cell cell' own others r = by_place (r == d) refl
  where
    by_place : (b : Bool) → (r == d) ≡ b → SaysLess (with_register regs d cell r) (with_register less d cell' r)
    by_place true e =
        let same : d ≡ r = grind (arith, nat_tests) in
        let P : ℕ → Type 0 = λ q. SaysLess (with_register regs d cell q) (with_register less d cell' q) in
        subst P same (rw (with_register-same regs d cell, with_register-same less d cell') own)
    by_place false e =
        let other : r ≢ d = grind (arith, nat_tests) in
        rw (with_register-other regs d r cell other, with_register-other less d r cell' other) (others r other)

-- a place that is written says what its cell says, and each other what it said, of what is known otherwise
pub written_less : (regs less : ℕ → Cell) (d : ℕ) (cell : Cell) → SaysLess cell (less d) → ((r : ℕ) → r ≢ d → SaysLess (regs r) (less r)) → (r : ℕ) → SaysLess (with_register regs d cell r) (less r)
written_less regs less d cell own others r = by_place (r == d) refl
  where
    by_place : (b : Bool) → (r == d) ≡ b → SaysLess (with_register regs d cell r) (less r)
    by_place true e =
        let same : d ≡ r = grind (arith, nat_tests) in
        let P : ℕ → Type 0 = λ q. SaysLess (with_register regs d cell q) (less q) in
        subst P same (rw (with_register-same regs d cell) own)
    by_place false e =
        let other : r ≢ d = grind (arith, nat_tests) in
        rw (with_register-other regs d r cell other) (others r other)

-- what is known after a write where third copies are right, said of the assertion as it was
pub unpromoted : (c : Assertion) (p q : ℕ) (d : ℕ) (cell : Cell) (at : ℕ) → at ≡ q → KnowsLess (after_write (promoted c p) d cell q) (after_write c d cell at)
unpromoted c p q d cell at same =
    record {
      pc = same;
      regs = written_says (λ r. promoted_cell (c.regs r)) c.regs d cell cell (says_again cell) (λ r ne. promoted_says (c.regs r));
      slots = λ k. promoted_says (c.slots k);
      bytes = λ o x h. h;
      size = refl;
      input = refl;
      out = refl;
    }

-- a law whose premises are of the place where the code stands
pub carries_placed : (words : List ℕ) (listed : ℕ → ℕ → Type 0) (code : List Form) (c d : Assertion) → d.pc ≡ c.pc + 4 * length code → (IsPlaced words c.pc code → Carries words listed code c d) → Carries words listed code c d
carries_placed words listed code c d ends law = record { moves = λ placed. (law placed).moves placed; ends = ends }
