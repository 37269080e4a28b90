-- The fetch of the right value of three copies, from registers and from slots of the frame.
use Rattle.std.specs.Prelude.{◌≡◌, ◌≢◌, ◌+◌, ◌*◌, ◌<◌, ℕ, pos, IsTrue, List, [], ◌∷◌, ◌++◌, None}
use Rattle.rv_inst.specs.declared.instruction.Form.{Form}
use Rattle.rv_inst.specs.declared.instruction.Form.TheVariants.{ADDI, BEQ, LD}
use Rattle.rv_inst.specs.Registers.{reads}
use Rattle.rv_inst.specs.Window.{may_use}
use Rattle.rv_flips.specs.Cells.{Has, Sure, One, Two, Three}
use Rattle.rv_flips.specs.Assertion.{Assertion, after_write}
use Rattle.rv_flips.specs.Fetching.{fetch_words, IsTriple}
use Rattle.rv_flips.specs.Moves.{Covered}
use Rattle.flip_words.specs.Placed.{WindowPoints, Excepted, IsPlaced, Carries}
use Rattle.flip_frames.specs.Views.{View, IsView, at_address, with_scratch}
use Rattle.flip_frames.specs.Slots.{vote_words, IsInData}

-- from registers: d holds the right value for sure. Nothing else that is kept for sure may be struck before the first word and before
-- the second one
abbrev pub TriplesAreFetched : Type 0
TriplesAreFetched = (words : List ℕ) (c : Assertion) (d a b t v : ℕ) → IsTriple c.regs a b t v → 0 < d → d ≢ b → d ≢ t
    → Covered (Excepted WindowPoints words) c
    → Covered (Excepted WindowPoints words) (after_write c d (Has One v) (c.pc + 4))
    → Carries words (Excepted WindowPoints words) (fetch_words d a b t) c (after_write c d (Has Sure v) (c.pc + 12))

-- the slots of three copies
pub record Triple : Type 0 where
  pub one : ℕ
  pub two : ℕ
  pub three : ℕ

-- three loads by one vote, the copies are compared, and x5 holds the right one
abbrev pub fetch_slots : Triple → List Form
fetch_slots x =
    vote_words ++ LD 5 2 (pos (8 * x.one)) ∷ LD 6 2 (pos (8 * x.two)) ∷ LD 7 2 (pos (8 * x.three)) ∷ BEQ 5 6 (pos 8) ∷ ADDI 5 7 (pos 0) ∷ []

-- the slots lie in the data and hold three copies of the value
pub record HoldsTriple (v : View) (x : Triple) (value : ℕ) : Type 0 where
  pub one : v.stage.slots (v.stage.base + x.one) ≡ Has One value
  pub two : v.stage.slots (v.stage.base + x.two) ≡ Has Two value
  pub three : v.stage.slots (v.stage.base + x.three) ≡ Has Three value
  pub first : IsInData v x.one
  pub second : IsInData v x.two
  pub third : IsInData v x.three

-- after the fetch x5 holds the value for sure, and x6 and x7 are used up
abbrev pub fetched : View → ℕ → ℕ → Assertion
fetched v value p = after_write (at_address (with_scratch (with_scratch v 6 None) 7 None) p) 5 (Has Sure value) p

-- from slots
abbrev pub SlotTriplesAreFetched : Type 0
SlotTriplesAreFetched = (words : List ℕ) (v : View) (x : Triple) (value p : ℕ) → IsView v → HoldsTriple v x value
    → Carries words (Excepted WindowPoints words) (fetch_slots x) (at_address v p) (fetched v value (p + 28))

-- where the next word uses x5, nothing that is kept for sure can be struck there outside the window points
abbrev pub FetchedAreCovered : Type 0
FetchedAreCovered = (words : List ℕ) (v : View) (x : Triple) (value p : ℕ) (j : Form) → IsView v
    → IsPlaced words p (fetch_slots x ++ j ∷ []) → IsTrue (reads j 5) → IsTrue (may_use 5 (BEQ 5 6 (pos 8)) j)
    → Covered (Excepted WindowPoints words) (fetched v value (p + 28))
